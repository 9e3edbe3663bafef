-- What somebody claims to be a decision within a tolerance, when the claim is right, and what is the first flaw of one that
-- is not.
use Rattle.std.specs.Prelude.{◌≡◌, ◌≢◌, ◌⊎◌, Bool, true, false, ℕ, List, length}
use Rattle.lb_certificates.specs.Chain.{peak, IsLeastDivision}
use Rattle.lb_certificates.specs.Flaws.{flaw_number, flaw_place, HasNamingFlaw, IsFirst}
use Rattle.lb_certificates.specs.Naming.{IsCheapest, IsNamed}
use Rattle.lb_certificates.specs.declared.flaw.Flaw.{Flaw}
use Rattle.chain_refinement.specs.Flaws.{refinement_flaw_number, refinement_flaw_place, HasRefinementFlaw, IsFirstRefinementFlaw}
use Rattle.chain_refinement.specs.Orders.{IsPresentOrder}
use Rattle.chain_refinement.specs.Refinement.{AreFewest, IsRefinement}
use Rattle.chain_refinement.specs.Tolerances.{limit_of}
use Rattle.chain_refinement.specs.declared.refinement.Refinement.{Refinement}
use Rattle.lb_lists.specs.Claims.{division_of, right_moved, Claimed, IsFlawTold, IsPlacedRight}
use Rattle.lb_lists.specs.Runs.{sizes_of, Listed}
use Rattle.lb_lists.specs.Steps.{heights_in}
use Rattle.lb_lists.specs.declared.refined_checking.RefinedFlaw.{RefinedFlaw}
use Rattle.lb_lists.specs.declared.refined_checking.RefinedFlaw.TheVariants.{OfRefinement, OrderWrong, BottleneckWrong, NamesNotOrder, OfDecision}

-- A decision whose cuts are near the present ones, as plain lists, and whether the PEs are to keep their order. Its stops are those
-- of the least division, and the least possible load is the greatest load of a block of that.
pub record RefinedClaimed : Type 0 where
  pub decision : Claimed
  pub keep_order : Bool
  pub least : ℕ
  pub least_cuts : List ℕ
  pub order : List ℕ
  pub present : List ℕ
  pub step_starts : List ℕ
  pub step_places : List ℕ
  pub step_rises : List ℕ

-- the refinement of these lists
abbrev pub refinement_of : {A : Type 0} → ℕ → RefinedClaimed → Refinement A
refinement_of thousandths claim =
    record {
      least = division_of claim.least claim.least_cuts claim.decision.stops;
      tolerance = thousandths;
      order = claim.order;
      present = claim.present;
      cuts = claim.decision.cuts;
      heights = heights_in claim.step_starts claim.step_places claim.step_rises;
    }

-- the refinement that is claimed
abbrev pub claimed_refinement : ℕ → RefinedClaimed → Refinement (Unit {0})
claimed_refinement thousandths claim = refinement_of thousandths claim

-- the refinement that is claimed is right
abbrev pub IsRefinedRight : Listed → ℕ → ℕ → RefinedClaimed → Type 0
IsRefinedRight run pes thousandths claim =
    IsRefinement run.loads (sizes_of run) pes (claimed_refinement thousandths claim)

-- the order and the present cuts are those of the PEs
abbrev pub IsOrderRight : Listed → ℕ → RefinedClaimed → Type 0
IsOrderRight run pes claim = IsPresentOrder (sizes_of run) pes claim.order claim.present

-- the bottleneck is the load of the heaviest block
abbrev pub IsBottleneckRight : Listed → RefinedClaimed → Type 0
IsBottleneckRight run claim = claim.decision.bottleneck ≡ peak run.loads claim.decision.cuts

-- the names of no more blocks than a snapshot has PEs are right, and their prices
abbrev pub IsNamedSmall : Listed → Claimed → Type 0
IsNamedSmall run claim =
    IsNamed (sizes_of run) claim.cuts claim.names claim.block_prices claim.pe_prices

-- the names, the prices, the bytes and the places are right
pub record AreNamesRight (run : Listed) (claim : Claimed) : Type 0 where
  pub named : IsNamedSmall run claim
  pub moved : claim.moved ≡ right_moved run claim
  pub placed : IsPlacedRight run claim

-- the names are the order of the PEs, and the bytes and the places are right
pub record AreInOrder (run : Listed) (claim : RefinedClaimed) : Type 0 where
  pub names : claim.decision.names ≡ claim.order
  pub moved : claim.decision.moved ≡ right_moved run claim.decision
  pub placed : IsPlacedRight run claim.decision

-- the names, the bytes and the places are right: by their prices, or, where the PEs are to keep their order, by that
abbrev pub AreNamesRightBy : Bool → Listed → RefinedClaimed → Type 0
AreNamesRightBy false run claim = AreNamesRight run claim.decision
AreNamesRightBy true run claim = AreInOrder run claim

-- Every part of the claim is right: its least division is certified, its heights prove its cuts, its order is that of the PEs, its
-- bottleneck is the load of its heaviest block, its prices prove its names, or these are the order, and it states the bytes that
-- these names move, and of each element the name of its block.
pub record IsRightRefined (run : Listed) (pes thousandths : ℕ) (claim : RefinedClaimed) : Type 0 where
  pub refinement : IsRefinedRight run pes thousandths claim
  pub order : IsOrderRight run pes claim
  pub bottleneck : IsBottleneckRight run claim
  pub names : AreNamesRightBy claim.keep_order run claim

-- no names of the blocks move fewer bytes, or, where the PEs are to keep their order, the names are that
abbrev pub AreNamesBestBy : Bool → Listed → ℕ → RefinedClaimed → Type 0
AreNamesBestBy false run pes claim = IsCheapest (sizes_of run) claim.decision.cuts pes claim.decision.names
AreNamesBestBy true run pes claim = claim.decision.names ≡ claim.order

-- What a right claim implies: the least possible load is what it says, no cuts within the tolerance move fewer bytes in the
-- present order of the PEs, and no names of its blocks do, or these are the order.
pub record IsBestWithin (run : Listed) (pes thousandths : ℕ) (claim : RefinedClaimed) : Type 0 where
  pub least : IsLeastDivision run.loads pes claim.least claim.least_cuts
  pub order : IsOrderRight run pes claim
  pub fewest : AreFewest run.loads (sizes_of run) claim.order (limit_of claim.least thousandths) claim.decision.cuts
  pub bottleneck : IsBottleneckRight run claim
  pub names : AreNamesBestBy claim.keep_order run pes claim
  pub moved : claim.decision.moved ≡ right_moved run claim.decision
  pub placed : IsPlacedRight run claim.decision

-- the first flaw of the names and prices; or, where these are right, of the bytes and the places
abbrev pub IsNamesFlaw : Listed → Claimed → Flaw → Type 0
IsNamesFlaw run claim flaw =
    IsFirst (HasNamingFlaw (sizes_of run) claim.cuts claim.names claim.block_prices claim.pe_prices) flaw
    ⊎ (IsNamedSmall run claim × IsFlawTold (right_moved run claim) (length run.loads) claim flaw)

-- the first flaw where names are right by their prices; or, where they are the order of the PEs, of the bytes and the places
abbrev pub IsNamesFlawBy : Bool → Listed → RefinedClaimed → Flaw → Type 0
IsNamesFlawBy false run claim flaw = IsNamesFlaw run claim.decision flaw
IsNamesFlawBy true run claim flaw =
    (claim.decision.names ≡ claim.order) × IsFlawTold (right_moved run claim.decision) (length run.loads) claim.decision flaw

-- the refinement, the order and the bottleneck are right
pub record IsRightUpToNames (run : Listed) (pes thousandths : ℕ) (claim : RefinedClaimed) : Type 0 where
  pub refinement : IsRefinedRight run pes thousandths claim
  pub order : IsOrderRight run pes claim
  pub bottleneck : IsBottleneckRight run claim

-- the first flaw of a claim that is not right: of its refinement; where that is right of its order; then of its bottleneck; then
-- of its names; and then of the bytes and the places
abbrev pub IsFirstRefinedFlaw : Listed → ℕ → ℕ → RefinedClaimed → RefinedFlaw → Type 0
IsFirstRefinedFlaw run pes thousandths claim (OfRefinement flaw) =
    IsFirstRefinementFlaw (HasRefinementFlaw run.loads (sizes_of run) pes (claimed_refinement thousandths claim)) flaw
IsFirstRefinedFlaw run pes thousandths claim OrderWrong =
    IsRefinedRight run pes thousandths claim × ¬ (IsOrderRight run pes claim)
IsFirstRefinedFlaw run pes thousandths claim BottleneckWrong =
    IsRefinedRight run pes thousandths claim × IsOrderRight run pes claim × ¬ (IsBottleneckRight run claim)
IsFirstRefinedFlaw run pes thousandths claim NamesNotOrder =
    IsRightUpToNames run pes thousandths claim × (claim.keep_order ≡ true) × (claim.decision.names ≢ claim.order)
IsFirstRefinedFlaw run pes thousandths claim (OfDecision flaw) =
    IsRightUpToNames run pes thousandths claim × IsNamesFlawBy claim.keep_order run claim flaw

-- the number of a flaw, and the block, the stop, the block and the PE, or the block and the place that it names
abbrev pub refined_flaw_number : RefinedFlaw → ℕ
refined_flaw_number (OfRefinement flaw) = refinement_flaw_number flaw
refined_flaw_number OrderWrong = 31
refined_flaw_number BottleneckWrong = 32
refined_flaw_number NamesNotOrder = 33
refined_flaw_number (OfDecision flaw) = flaw_number flaw

abbrev pub refined_flaw_place : RefinedFlaw → ℕ × ℕ
refined_flaw_place (OfRefinement flaw) = refinement_flaw_place flaw
refined_flaw_place (OfDecision flaw) = flaw_place flaw
refined_flaw_place _ = (0, 0)
