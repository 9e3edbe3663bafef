-- What somebody claims to be a decision in any order of the PEs, when the claim is right, and what is the first flaw of one that is
-- not.
use Rattle.std.specs.Prelude.{◌≡◌, ℕ, ◌+◌, List, length, take, drop}
use Rattle.lb_certificates.specs.Chain.{peak, IsLeastDivision}
use Rattle.lb_certificates.specs.Flaws.{flaw_number, flaw_place}
use Rattle.any_order.specs.AnyOrder.{AreFewestOfAll, IsReordered}
use Rattle.any_order.specs.Flaws.{reordered_flaw_place, HasReorderedFlaw, IsFirstReorderedFlaw}
use Rattle.any_order.specs.declared.reordered.Reordered.{Reordered}
use Rattle.any_order.specs.declared.flaw.ReorderedFlaw.{ReorderedFlaw}
use Rattle.any_order.specs.declared.flaw.ReorderedFlaw.TheVariants.{Least, PeCount, NameCount, NameRange, NameTwice, CutCount, NoDivision, Heavy, RowCount, Start, Steep, Low}
use Rattle.chain_refinement.specs.Tolerances.{limit_of}
use Rattle.lb_lists.specs.Claims.{division_of, right_moved, Claimed, IsFlawTold, IsPlacedRight}
use Rattle.lb_lists.specs.Runs.{sizes_of, Listed}
use Rattle.lb_lists.specs.Steps.{heights_in}
use Rattle.lb_lists.specs.declared.reordered_checking.ReorderedClaimFlaw.{ReorderedClaimFlaw}
use Rattle.lb_lists.specs.declared.reordered_checking.ReorderedClaimFlaw.TheVariants.{OfReordered, BottleneckWrong, OfDecision}

-- A decision in any order of the PEs, as plain lists. Its stops are those of the least division, and its prices do not matter.
pub record ReorderedClaimed : Type 0 where
  pub decision : Claimed
  pub least : ℕ
  pub least_cuts : List ℕ
  pub level_starts : List ℕ
  pub level_places : List ℕ
  pub level_bytes : List ℕ

-- the reordered division of these lists: the rows of the first pes + 1 numbers of blocks are bounds whatever the PEs are, and those
-- behind them bounds where a PE is free
abbrev pub reordered_in : {A : Type 0} → ℕ → ℕ → ReorderedClaimed → Reordered A
reordered_in pes thousandths claim =
    record {
      least = division_of claim.least claim.least_cuts claim.decision.stops;
      tolerance = thousandths;
      cuts = claim.decision.cuts;
      names = claim.decision.names;
      any = heights_in (take (pes + 2) claim.level_starts) claim.level_places claim.level_bytes;
      free = heights_in (drop (pes + 1) claim.level_starts) claim.level_places claim.level_bytes;
    }

-- the reordered division that is claimed
abbrev pub claimed_reordered : ℕ → ℕ → ReorderedClaimed → Reordered (Unit {0})
claimed_reordered pes thousandths claim = reordered_in pes thousandths claim

-- it is right
abbrev pub IsReorderedRight : Listed → ℕ → ℕ → ReorderedClaimed → Type 0
IsReorderedRight run pes thousandths claim =
    IsReordered run.loads (sizes_of run) pes (claimed_reordered pes thousandths claim)

-- the bottleneck is the load of the heaviest block
abbrev pub IsPeakRight : Listed → ReorderedClaimed → Type 0
IsPeakRight run claim = claim.decision.bottleneck ≡ peak run.loads claim.decision.cuts

-- Every part of the claim is right: its least division is certified, its bounds prove its cuts and names, its bottleneck is the load
-- of its heaviest block, and it states the bytes that its names move, and of each element the name of its block.
pub record IsRightReordered (run : Listed) (pes thousandths : ℕ) (claim : ReorderedClaimed) : Type 0 where
  pub reordered : IsReorderedRight run pes thousandths claim
  pub bottleneck : IsPeakRight run claim
  pub moved : claim.decision.moved ≡ right_moved run claim.decision
  pub placed : IsPlacedRight run claim.decision

-- What a right claim implies: the least possible load is what it says, and no cuts within the tolerance, with no names of their
-- blocks, move fewer bytes.
pub record IsBestOfAll (run : Listed) (pes thousandths : ℕ) (claim : ReorderedClaimed) : Type 0 where
  pub least : IsLeastDivision run.loads pes claim.least claim.least_cuts
  pub fewest : AreFewestOfAll run.loads (sizes_of run) pes (limit_of claim.least thousandths) claim.decision.cuts claim.decision.names
  pub bottleneck : IsPeakRight run claim
  pub moved : claim.decision.moved ≡ right_moved run claim.decision
  pub placed : IsPlacedRight run claim.decision

-- the first flaw of a claim that is not right: of its reordered division; where that is right of its bottleneck; and then of the
-- bytes and the places
abbrev pub IsFirstClaimFlaw : Listed → ℕ → ℕ → ReorderedClaimed → ReorderedClaimFlaw → Type 0
IsFirstClaimFlaw run pes thousandths claim (OfReordered flaw) =
    IsFirstReorderedFlaw (HasReorderedFlaw run.loads (sizes_of run) pes (claimed_reordered pes thousandths claim)) flaw
IsFirstClaimFlaw run pes thousandths claim BottleneckWrong =
    IsReorderedRight run pes thousandths claim × ¬ (IsPeakRight run claim)
IsFirstClaimFlaw run pes thousandths claim (OfDecision flaw) =
    IsReorderedRight run pes thousandths claim × IsPeakRight run claim × IsFlawTold (right_moved run claim.decision) (length run.loads) claim.decision flaw

-- the number of a flaw of a reordered division: flaws that other claims can have, too, have the number that they have there
abbrev pub number_of_division : ReorderedFlaw → ℕ
number_of_division (Least flaw) = flaw_number flaw
number_of_division PeCount = 20
number_of_division NameCount = 12
number_of_division NameRange = 13
number_of_division NameTwice = 14
number_of_division CutCount = 24
number_of_division NoDivision = 25
number_of_division (Heavy b) = 26
number_of_division RowCount = 35
number_of_division Start = 36
number_of_division (Steep b y x) = 37
number_of_division Low = 38

-- the number of a flaw, and the block, the stop, or the number of blocks with two places, that it names
abbrev pub claim_flaw_number : ReorderedClaimFlaw → ℕ
claim_flaw_number (OfReordered flaw) = number_of_division flaw
claim_flaw_number BottleneckWrong = 32
claim_flaw_number (OfDecision flaw) = flaw_number flaw

abbrev pub claim_flaw_place : ReorderedClaimFlaw → ℕ × ℕ × ℕ
claim_flaw_place (OfReordered flaw) = reordered_flaw_place flaw
claim_flaw_place (OfDecision flaw) = ((flaw_place flaw).0, (flaw_place flaw).1, 0)
claim_flaw_place BottleneckWrong = (0, 0, 0)
