-- The refinement of a claim is the same whatever holds its lists; the first flaw of a claim, from what the checkers of refinements
-- and namings answer; and what a right claim implies.
use Rattle.std.proofs.Common.{◌≡◌, ◌↔◌, ℕ, ℤ, Bool, IsTrue, true, false, List, Option, None, Some, inl, inr, length, arith, refl, subst, sym}
use Rattle.std.specs.Prelude.{MatchBool, MatchOption}
use Rattle.lb_certificates.specs.Chain.{peak}
use Rattle.lb_certificates.specs.Flaws.{HasNamingFlaw, IsFirst}
use Rattle.lb_certificates.specs.Naming.{blocks_between, bytes_moved, IsCheapest, IsNamed}
use Rattle.lb_certificates.specs.declared.flaw.Flaw.{Flaw}
use Rattle.lb_certificates.proofs.BlockSums.{cheapest_from_named}
use Rattle.lb_certificates.proofs.LeastDivisions.{least_from_certified}
use Rattle.chain_refinement.specs.Flaws.{HasRefinementFlaw, IsFirstRefinementFlaw}
use Rattle.chain_refinement.specs.Orders.{IsPresentOrder}
use Rattle.chain_refinement.specs.Refinement.{IsRefinement}
use Rattle.chain_refinement.specs.declared.refinement.Refinement.{Refinement}
use Rattle.chain_refinement.specs.declared.flaw.RefinementFlaw.{RefinementFlaw}
use Rattle.chain_refinement.specs.declared.flaw.RefinementFlaw.TheVariants.{Least, PeCount, NameCount, NameRange, NameTwice, CutCount, NoDivision, Heavy, HeightCount, HeightStart, Steep, HeightLow}
use Rattle.chain_refinement.proofs.Bounds.{fewest_from_proved}
use Rattle.chain_refinement.proofs.OneOrder.{one_order}
use Rattle.lb_lists.specs.Claims.{right_moved, Claimed, IsFlawTold, IsPlacedRight, IsToldRight}
use Rattle.lb_lists.specs.RefinedClaims.{claimed_refinement, refinement_of, AreNamesBestBy, AreNamesRight, AreNamesRightBy, IsBestWithin, IsFirstRefinedFlaw, IsNamedSmall, IsNamesFlaw, IsNamesFlawBy, IsRightRefined, IsRightUpToNames, RefinedClaimed}
use Rattle.lb_lists.specs.declared.refined_checking.RefinedFlaw.{RefinedFlaw}
use Rattle.lb_lists.specs.declared.refined_checking.RefinedFlaw.TheVariants.{OfDecision}
use Rattle.lb_lists.specs.Runs.{sizes_of, IsRun, Listed}
use Rattle.lb_lists.proofs.Claims.{certified_claimed, flaws_agree}
use Rattle.lb_lists.proofs.Zipped.{zip_length}

refinement_flaws_agree : (A B : Type 0) (loads : List ℕ) (sizes : List (ℕ × ℕ)) (pes thousandths : ℕ) (claim : RefinedClaimed) (flaw : RefinementFlaw)
    → HasRefinementFlaw loads sizes pes (refinement_of {A = A} thousandths claim) flaw
    → HasRefinementFlaw loads sizes pes (refinement_of {A = B} thousandths claim) flaw
refinement_flaws_agree A B loads sizes pes thousandths claim (Least flaw) flawed =
    flaws_agree A B loads pes claim.least claim.least_cuts claim.decision.stops flaw flawed
refinement_flaws_agree A B loads sizes pes thousandths claim PeCount flawed = flawed
refinement_flaws_agree A B loads sizes pes thousandths claim NameCount flawed = flawed
refinement_flaws_agree A B loads sizes pes thousandths claim NameRange flawed = flawed
refinement_flaws_agree A B loads sizes pes thousandths claim NameTwice flawed = flawed
refinement_flaws_agree A B loads sizes pes thousandths claim CutCount flawed = flawed
refinement_flaws_agree A B loads sizes pes thousandths claim NoDivision flawed = flawed
refinement_flaws_agree A B loads sizes pes thousandths claim (Heavy b) flawed = flawed
refinement_flaws_agree A B loads sizes pes thousandths claim HeightCount flawed = flawed
refinement_flaws_agree A B loads sizes pes thousandths claim HeightStart flawed = flawed
refinement_flaws_agree A B loads sizes pes thousandths claim (Steep b x) flawed = flawed
refinement_flaws_agree A B loads sizes pes thousandths claim HeightLow flawed = flawed

-- the first flaw of the refinement
pub first_refinement : (A : Type 0) (loads : List ℕ) (sizes : List (ℕ × ℕ)) (pes thousandths : ℕ) (claim : RefinedClaimed) (flaw : RefinementFlaw)
    → IsFirstRefinementFlaw (HasRefinementFlaw loads sizes pes (refinement_of {A = A} thousandths claim)) flaw
    → IsFirstRefinementFlaw (HasRefinementFlaw loads sizes pes (claimed_refinement thousandths claim)) flaw
first_refinement A loads sizes pes thousandths claim flaw first =
    record {
      applies_itself = refinement_flaws_agree A (Unit {0}) loads sizes pes thousandths claim flaw first.applies_itself;
      no_lower_number = λ other lower flawed. first.no_lower_number other lower (refinement_flaws_agree (Unit {0}) A loads sizes pes thousandths claim other flawed);
      no_lower_place = λ other same before flawed. first.no_lower_place other same before (refinement_flaws_agree (Unit {0}) A loads sizes pes thousandths claim other flawed);
    }

-- the refinement, where it is right
pub right_refinement : (A : Type 0) (loads : List ℕ) (sizes : List (ℕ × ℕ)) (pes thousandths : ℕ) (claim : RefinedClaimed)
    → IsRefinement loads sizes pes (refinement_of {A = A} thousandths claim) → IsRefinement loads sizes pes (claimed_refinement thousandths claim)
right_refinement A loads sizes pes thousandths claim right =
    record {
      least = certified_claimed A loads pes claim.least claim.least_cuts claim.decision.stops right.least;
      some_pe = right.some_pe;
      few_pes = right.few_pes;
      order = right.order;
      proved = right.proved;
    }

-- the lists of a claim's decision, on a run
pub record AreNamesOf (run : Listed) (claim : Claimed) (sizes : List (ℕ × ℕ)) (cuts names : List ℕ) (u v : List ℤ) : Type 0 where
  pub sizes_are : sizes ≡ sizes_of run
  pub cuts_are : cuts ≡ claim.cuts
  pub names_are : names ≡ claim.names
  pub block_prices_are : u ≡ claim.block_prices
  pub pe_prices_are : v ≡ claim.pe_prices

of_names : (run : Listed) (claim : Claimed) (sizes : List (ℕ × ℕ)) (cuts names : List ℕ) (u v : List ℤ)
    → (P : List (ℕ × ℕ) → List ℕ → List ℕ → List ℤ → List ℤ → Type 0) → AreNamesOf run claim sizes cuts names u v → P sizes cuts names u v
    → P (sizes_of run) claim.cuts claim.names claim.block_prices claim.pe_prices
of_names run claim sizes cuts names u v P parts holds =
    let with_sizes = subst (λ s. P s cuts names u v) parts.sizes_are holds in
    let with_cuts = subst (λ c. P (sizes_of run) c names u v) parts.cuts_are with_sizes in
    let with_names = subst (λ n. P (sizes_of run) claim.cuts n u v) parts.names_are with_cuts in
    let with_blocks = subst (λ w. P (sizes_of run) claim.cuts claim.names w v) parts.block_prices_are with_names in
    subst (P (sizes_of run) claim.cuts claim.names claim.block_prices) parts.pe_prices_are with_blocks

-- a flaw that the checker of namings reports
pub in_names : (run : Listed) (claim : Claimed) (sizes : List (ℕ × ℕ)) (cuts names : List ℕ) (u v : List ℤ) (flaw : Flaw)
    → AreNamesOf run claim sizes cuts names u v → IsFirst (HasNamingFlaw sizes cuts names u v) flaw → IsNamesFlaw run claim flaw
in_names run claim sizes cuts names u v flaw parts first =
    inl (of_names run claim sizes cuts names u v (λ s c n x y. IsFirst (HasNamingFlaw s c n x y) flaw) parts first)

-- the first flaw in the bytes and places that a claim states beside right names
pub in_told : (run : Listed) (claim : Claimed) (sizes : List (ℕ × ℕ)) (cuts names : List ℕ) (u v : List ℤ) (moved count : ℕ) (result : Option Flaw)
    → AreNamesOf run claim sizes cuts names u v → IsNamed sizes cuts names u v → moved ≡ bytes_moved sizes cuts names → count ≡ length run.loads
    → MatchOption result (IsToldRight moved count claim) (IsFlawTold moved count claim)
    → MatchOption result (AreNamesRight run claim) (IsNamesFlaw run claim)
in_told run claim sizes cuts names u v moved count result parts right moves counted told =
    let named : IsNamedSmall run claim = of_names run claim sizes cuts names u v IsNamed parts right in
    let moved_is : moved ≡ right_moved run claim = of_names run claim sizes cuts names u v (λ s c n x y. moved ≡ bytes_moved s c n) parts moves in
    told_by run claim result named (subst (λ m. MatchOption result (IsToldRight m (length run.loads) claim)
    (IsFlawTold m (length run.loads) claim)) moved_is (subst (λ n. MatchOption result (IsToldRight moved n claim) (IsFlawTold moved n claim)) counted told))
  where
    told_by : (run : Listed) (claim : Claimed) (result : Option Flaw) → IsNamedSmall run claim
        → MatchOption result (IsToldRight (right_moved run claim) (length run.loads) claim) (IsFlawTold (right_moved run claim) (length run.loads) claim)
        → MatchOption result (AreNamesRight run claim) (IsNamesFlaw run claim)
    told_by run claim None named told = record { named = named; moved = told.0; placed = told.1 }
    told_by run claim (Some flaw) named told = inr (named, told)

-- the order of the PEs is this one exactly where the one that was found is
pub order_is : (is : Bool) (sizes : List (ℕ × ℕ)) (pes : ℕ) (names present order cuts : List ℕ) → IsPresentOrder sizes pes names present
    → (IsTrue is ↔ ((names ≡ order) × (present ≡ cuts)))
    → MatchBool is (IsPresentOrder sizes pes order cuts) (¬ (IsPresentOrder sizes pes order cuts))
order_is true sizes pes names present order cuts found tells =
    let same = tells.0 refl in
    subst (λ ps. IsPresentOrder sizes pes order ps) same.1 (subst (λ ns. IsPresentOrder sizes pes ns present) same.0 found)
order_is false sizes pes names present order cuts found tells =
    λ other.
    let same = one_order sizes pes names present order cuts found other in
    let both : IsTrue false = tells.1 (same.0, same.1) in
    absurd cc

-- a claim is right up to its names, from what was found of a snapshot
pub up_to_names : (A : Type 0) (run : Listed) (pes thousandths : ℕ) (claim : RefinedClaimed) (loads : List ℕ) (sizes : List (ℕ × ℕ)) (r : Refinement A)
    → loads ≡ run.loads → sizes ≡ sizes_of run → r ≡ refinement_of thousandths claim → IsRefinement loads sizes pes r
    → IsPresentOrder sizes pes claim.order claim.present → claim.decision.bottleneck ≡ peak loads claim.decision.cuts
    → IsRightUpToNames run pes thousandths claim
up_to_names A run pes thousandths claim loads sizes r loads_are sizes_are refinement_is right order heavy =
    let on_loads = subst (λ l. IsRefinement l sizes pes r) loads_are right in
    let on_run = subst (λ s. IsRefinement run.loads s pes r) sizes_are on_loads in
    record {
      refinement = right_refinement A run.loads (sizes_of run) pes thousandths claim (subst (IsRefinement run.loads (sizes_of run) pes) refinement_is on_run);
      order = subst (λ s. IsPresentOrder s pes claim.order claim.present) sizes_are order;
      bottleneck = subst (λ l. claim.decision.bottleneck ≡ peak l claim.decision.cuts) loads_are heavy;
    }

-- a claim is right where it is up to its names, and these are, too
pub right_by_names : (run : Listed) (pes thousandths : ℕ) (keep : Bool) (claim : RefinedClaimed) → claim.keep_order ≡ keep
    → IsRightUpToNames run pes thousandths claim → AreNamesRightBy keep run claim → IsRightRefined run pes thousandths claim
right_by_names run pes thousandths keep claim kept right names =
    record {
      refinement = right.refinement;
      order = right.order;
      bottleneck = right.bottleneck;
      names = subst (λ b. AreNamesRightBy b run claim) (sym kept) names;
    }

-- and otherwise the first flaw of the names is that of the claim
pub flaw_of_names : (run : Listed) (pes thousandths : ℕ) (keep : Bool) (claim : RefinedClaimed) (flaw : Flaw) → claim.keep_order ≡ keep
    → IsRightUpToNames run pes thousandths claim → IsNamesFlawBy keep run claim flaw → IsFirstRefinedFlaw run pes thousandths claim (OfDecision flaw)
flaw_of_names run pes thousandths keep claim flaw kept right flawed =
    (right, subst (λ b. IsNamesFlawBy b run claim flaw) (sym kept) flawed)

-- what is told of names that are the order, on a run
pub in_order_told : (run : Listed) (claim : RefinedClaimed) (loads : List ℕ) (sizes : List (ℕ × ℕ)) (found : Option Flaw) → loads ≡ run.loads
    → sizes ≡ sizes_of run → claim.decision.names ≡ claim.order
    → MatchOption found (IsToldRight (bytes_moved sizes claim.decision.cuts claim.decision.names) (length loads) claim.decision)
    (IsFlawTold (bytes_moved sizes claim.decision.cuts claim.decision.names) (length loads) claim.decision)
    → MatchOption found (AreNamesRightBy true run claim) (IsNamesFlawBy true run claim)
in_order_told run claim loads sizes found loads_are sizes_are called told =
    told_by run claim found called (subst (λ s. MatchOption found
    (IsToldRight (bytes_moved s claim.decision.cuts claim.decision.names) (length run.loads) claim.decision)
    (IsFlawTold (bytes_moved s claim.decision.cuts claim.decision.names) (length run.loads) claim.decision)) sizes_are
    (subst (λ l. MatchOption found (IsToldRight (bytes_moved sizes claim.decision.cuts claim.decision.names) (length l) claim.decision)
    (IsFlawTold (bytes_moved sizes claim.decision.cuts claim.decision.names) (length l) claim.decision)) loads_are told))
  where
    told_by : (run : Listed) (claim : RefinedClaimed) (found : Option Flaw) → claim.decision.names ≡ claim.order
        → MatchOption found (IsToldRight (right_moved run claim.decision) (length run.loads) claim.decision)
        (IsFlawTold (right_moved run claim.decision) (length run.loads) claim.decision)
        → MatchOption found (AreNamesRightBy true run claim) (IsNamesFlawBy true run claim)
    told_by run claim None called told = record { names = called; moved = told.0; placed = told.1 }
    told_by run claim (Some flaw) called told = (called, told)

-- names that are right are best, the bytes are theirs, and so are the places
best_by : (run : Listed) (pes : ℕ) (keep : Bool) (claim : RefinedClaimed) → blocks_between claim.decision.cuts ≡ pes → AreNamesRightBy keep run claim
    → AreNamesBestBy keep run pes claim
best_by run pes false claim counted right =
    subst (λ n. IsCheapest (sizes_of run) claim.decision.cuts n claim.decision.names) counted
    (cheapest_from_named (sizes_of run) claim.decision.cuts claim.decision.names claim.decision.block_prices claim.decision.pe_prices right.named)
best_by run pes true claim counted right = right.names

moved_by : (run : Listed) (keep : Bool) (claim : RefinedClaimed) → AreNamesRightBy keep run claim → claim.decision.moved ≡ right_moved run claim.decision
moved_by run false claim right = right.moved
moved_by run true claim right = right.moved

placed_by : (run : Listed) (keep : Bool) (claim : RefinedClaimed) → AreNamesRightBy keep run claim → IsPlacedRight run claim.decision
placed_by run false claim right = right.placed
placed_by run true claim right = right.placed

-- a right claim is best
pub best_within : (run : Listed) (pes thousandths : ℕ) (claim : RefinedClaimed) → IsRun run → IsRightRefined run pes thousandths claim → IsBestWithin run pes thousandths claim
best_within run pes thousandths claim is_run right =
    let paired : length run.loads ≡ length (sizes_of run) = omega (arith, zip_length run.bytes run.places (omega (arith, is_run.stood, is_run.sized)), is_run.sized) in
    let counted : blocks_between claim.decision.cuts ≡ pes = omega (arith, right.refinement.proved.within.divides.counted, right.refinement.order.counted) in
    record {
      least = least_from_certified run.loads pes _ right.refinement.least;
      order = right.order;
      fewest = fewest_from_proved run.loads (sizes_of run) claim.order _ claim.decision.cuts _ paired right.refinement.proved;
      bottleneck = right.bottleneck;
      names = best_by run pes claim.keep_order claim counted right.names;
      moved = moved_by run claim.keep_order claim right.names;
      placed = placed_by run claim.keep_order claim right.names;
    }

-- a claim in which no flaw was found is best
pub best_where_no_flaw : (run : Listed) (pes thousandths : ℕ) (claim : RefinedClaimed) (found : Option RefinedFlaw) → IsRun run
    → MatchOption found (IsRightRefined run pes thousandths claim) (IsFirstRefinedFlaw run pes thousandths claim) → found ≡ None
    → IsBestWithin run pes thousandths claim
best_where_no_flaw run pes thousandths claim None is_run right none = best_within run pes thousandths claim is_run right
best_where_no_flaw run pes thousandths claim (Some flaw) is_run first none = absurd cc
