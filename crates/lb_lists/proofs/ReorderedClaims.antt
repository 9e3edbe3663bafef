-- The reordered division of a claim is the same whatever holds its lists; the first flaw of a claim, from what the checker of
-- reordered divisions answers; and what a right claim implies.
use Rattle.std.proofs.Common.{◌≡◌, ℕ, List, Option, None, Some, length, arith, subst}
use Rattle.std.specs.Prelude.{MatchOption}
use Rattle.lb_certificates.specs.Chain.{peak}
use Rattle.lb_certificates.specs.Naming.{bytes_moved}
use Rattle.lb_certificates.specs.declared.flaw.Flaw.{Flaw}
use Rattle.lb_certificates.proofs.LeastDivisions.{least_from_certified}
use Rattle.any_order.specs.AnyOrder.{IsReordered}
use Rattle.any_order.specs.Flaws.{HasReorderedFlaw, IsFirstReorderedFlaw}
use Rattle.any_order.specs.declared.reordered.Reordered.{Reordered}
use Rattle.any_order.specs.declared.flaw.ReorderedFlaw.{ReorderedFlaw}
use Rattle.any_order.specs.declared.flaw.ReorderedFlaw.TheVariants.{Least, PeCount, NameCount, NameRange, NameTwice, CutCount, NoDivision, Heavy, RowCount, Start, Steep, Low}
use Rattle.any_order.proofs.LowerBounds.{fewest_from_bounds}
use Rattle.lb_lists.specs.Claims.{right_moved, IsFlawTold, IsToldRight}
use Rattle.lb_lists.specs.ReorderedClaims.{claimed_reordered, reordered_in, IsBestOfAll, IsFirstClaimFlaw, IsPeakRight, IsReorderedRight, IsRightReordered, ReorderedClaimed}
use Rattle.lb_lists.specs.declared.reordered_checking.ReorderedClaimFlaw.{ReorderedClaimFlaw}
use Rattle.lb_lists.specs.declared.reordered_checking.ReorderedClaimFlaw.TheVariants.{OfReordered, OfDecision}
use Rattle.lb_lists.specs.Runs.{sizes_of, IsRun, Listed}
use Rattle.lb_lists.proofs.Claims.{certified_claimed, flaws_agree}
use Rattle.lb_lists.proofs.Zipped.{zip_length}

reordered_flaws_agree : (A B : Type 0) (loads : List ℕ) (sizes : List (ℕ × ℕ)) (pes thousandths : ℕ) (claim : ReorderedClaimed) (flaw : ReorderedFlaw)
    → HasReorderedFlaw loads sizes pes (reordered_in {A = A} pes thousandths claim) flaw
    → HasReorderedFlaw loads sizes pes (reordered_in {A = B} pes thousandths claim) flaw
reordered_flaws_agree A B loads sizes pes thousandths claim (Least flaw) flawed =
    flaws_agree A B loads pes claim.least claim.least_cuts claim.decision.stops flaw flawed
reordered_flaws_agree A B loads sizes pes thousandths claim PeCount flawed = flawed
reordered_flaws_agree A B loads sizes pes thousandths claim NameCount flawed = flawed
reordered_flaws_agree A B loads sizes pes thousandths claim NameRange flawed = flawed
reordered_flaws_agree A B loads sizes pes thousandths claim NameTwice flawed = flawed
reordered_flaws_agree A B loads sizes pes thousandths claim CutCount flawed = flawed
reordered_flaws_agree A B loads sizes pes thousandths claim NoDivision flawed = flawed
reordered_flaws_agree A B loads sizes pes thousandths claim (Heavy b) flawed = flawed
reordered_flaws_agree A B loads sizes pes thousandths claim RowCount flawed = flawed
reordered_flaws_agree A B loads sizes pes thousandths claim Start flawed = flawed
reordered_flaws_agree A B loads sizes pes thousandths claim (Steep b y x) flawed = flawed
reordered_flaws_agree A B loads sizes pes thousandths claim Low flawed = flawed

-- the first flaw of the reordered division
first_reordered : (A : Type 0) (loads : List ℕ) (sizes : List (ℕ × ℕ)) (pes thousandths : ℕ) (claim : ReorderedClaimed) (flaw : ReorderedFlaw)
    → IsFirstReorderedFlaw (HasReorderedFlaw loads sizes pes (reordered_in {A = A} pes thousandths claim)) flaw
    → IsFirstReorderedFlaw (HasReorderedFlaw loads sizes pes (claimed_reordered pes thousandths claim)) flaw
first_reordered A loads sizes pes thousandths claim flaw first =
    record {
      applies_itself = reordered_flaws_agree A (Unit {0}) loads sizes pes thousandths claim flaw first.applies_itself;
      no_lower_number = λ other lower flawed. first.no_lower_number other lower (reordered_flaws_agree (Unit {0}) A loads sizes pes thousandths claim other flawed);
      no_lower_place = λ other same before flawed. first.no_lower_place other same before (reordered_flaws_agree (Unit {0}) A loads sizes pes thousandths claim other flawed);
    }

-- a reordered division of a snapshot, on a run
on_run : {A : Type 0} (run : Listed) (pes thousandths : ℕ) (claim : ReorderedClaimed) (loads : List ℕ) (sizes : List (ℕ × ℕ))
    (r : Reordered A) (P : List ℕ → List (ℕ × ℕ) → Reordered A → Type 0)
    → loads ≡ run.loads → sizes ≡ sizes_of run → r ≡ reordered_in pes thousandths claim → P loads sizes r
    → P run.loads (sizes_of run) (reordered_in pes thousandths claim)
on_run run pes thousandths claim loads sizes r P loads_are sizes_are reordered_is holds =
    let on_loads = subst (λ l. P l sizes r) loads_are holds in
    let on_sizes = subst (λ s. P run.loads s r) sizes_are on_loads in
    subst (P run.loads (sizes_of run)) reordered_is on_sizes

-- the flaw that the checker of reordered divisions reports is the first of the claim
pub flaw_of_reordered : (A : Type 0) (run : Listed) (pes thousandths : ℕ) (claim : ReorderedClaimed) (loads : List ℕ) (sizes : List (ℕ × ℕ))
    (r : Reordered A) (flaw : ReorderedFlaw)
    → loads ≡ run.loads → sizes ≡ sizes_of run → r ≡ reordered_in pes thousandths claim
    → IsFirstReorderedFlaw (HasReorderedFlaw loads sizes pes r) flaw → IsFirstClaimFlaw run pes thousandths claim (OfReordered flaw)
flaw_of_reordered A run pes thousandths claim loads sizes r flaw loads_are sizes_are reordered_is first =
    first_reordered A run.loads (sizes_of run) pes thousandths claim flaw
    (on_run run pes thousandths claim loads sizes r (λ l s x. IsFirstReorderedFlaw (HasReorderedFlaw l s pes x) flaw) loads_are
    sizes_are reordered_is first)

-- the reordered division of a claim is right where the checker accepts it
pub right_of_reordered : (A : Type 0) (run : Listed) (pes thousandths : ℕ) (claim : ReorderedClaimed) (loads : List ℕ) (sizes : List (ℕ × ℕ)) (r : Reordered A)
    → loads ≡ run.loads → sizes ≡ sizes_of run → r ≡ reordered_in pes thousandths claim → IsReordered loads sizes pes r
    → IsReorderedRight run pes thousandths claim
right_of_reordered A run pes thousandths claim loads sizes r loads_are sizes_are reordered_is right =
    let it = on_run run pes thousandths claim loads sizes r (λ l s x. IsReordered l s pes x) loads_are sizes_are reordered_is right in
    record {
      least = certified_claimed A run.loads pes claim.least claim.least_cuts claim.decision.stops it.least;
      some_pe = it.some_pe;
      few_pes = it.few_pes;
      plan = it.plan;
      any_counted = it.any_counted;
      free_counted = it.free_counted;
      bounds = it.bounds;
    }

-- what is told of the bytes and the places, on a run
pub told_of_reordered : (run : Listed) (pes thousandths : ℕ) (claim : ReorderedClaimed) (loads : List ℕ) (sizes : List (ℕ × ℕ)) (moved count : ℕ) (found : Option Flaw)
    → loads ≡ run.loads → sizes ≡ sizes_of run → IsReorderedRight run pes thousandths claim
    → claim.decision.bottleneck ≡ peak loads claim.decision.cuts → moved ≡ bytes_moved sizes claim.decision.cuts claim.decision.names
    → count ≡ length loads → MatchOption found (IsToldRight moved count claim.decision) (IsFlawTold moved count claim.decision)
    → MatchOption found (IsRightReordered run pes thousandths claim) (λ flaw. IsFirstClaimFlaw run pes thousandths claim (OfDecision flaw))
told_of_reordered run pes thousandths claim loads sizes moved count found loads_are sizes_are right heavy moved_is counted told =
    let heavy_run : IsPeakRight run claim = subst (λ l. claim.decision.bottleneck ≡ peak l claim.decision.cuts) loads_are heavy in
    let moved_run : moved ≡ right_moved run claim.decision = subst (λ s. moved ≡ bytes_moved s claim.decision.cuts claim.decision.names) sizes_are moved_is in
    let counted_run : count ≡ length run.loads = subst (λ l. count ≡ length l) loads_are counted in
    told_by run pes thousandths claim found right heavy_run
    (subst (λ m. MatchOption found (IsToldRight m (length run.loads) claim.decision) (IsFlawTold m (length run.loads) claim.decision))
    moved_run (subst (λ n. MatchOption found (IsToldRight moved n claim.decision) (IsFlawTold moved n claim.decision)) counted_run told))
  where
    told_by : (run : Listed) (pes thousandths : ℕ) (claim : ReorderedClaimed) (found : Option Flaw) → IsReorderedRight run pes thousandths claim
        → IsPeakRight run claim
        → MatchOption found (IsToldRight (right_moved run claim.decision) (length run.loads) claim.decision)
        (IsFlawTold (right_moved run claim.decision) (length run.loads) claim.decision)
        → MatchOption found (IsRightReordered run pes thousandths claim) (λ flaw. IsFirstClaimFlaw run pes thousandths claim (OfDecision flaw))
    told_by run pes thousandths claim None right heavy told = record { reordered = right; bottleneck = heavy; moved = told.0; placed = told.1 }
    told_by run pes thousandths claim (Some flaw) right heavy told = (right, heavy, told)

-- a right claim is best
best_of_all : (run : Listed) (pes thousandths : ℕ) (claim : ReorderedClaimed) → IsRun run → IsRightReordered run pes thousandths claim → IsBestOfAll run pes thousandths claim
best_of_all run pes thousandths claim is_run right =
    let paired : length run.loads ≡ length (sizes_of run) = omega (arith, zip_length run.bytes run.places (omega (arith, is_run.stood, is_run.sized)), is_run.sized) in
    record {
      least = least_from_certified run.loads pes _ right.reordered.least;
      fewest = fewest_from_bounds run.loads (sizes_of run) pes _ _ _ claim.decision.cuts claim.decision.names paired right.reordered.plan right.reordered.bounds;
      bottleneck = right.bottleneck;
      moved = right.moved;
      placed = right.placed;
    }

-- a claim in which no flaw was found is best
pub best_where_no_flaw : (run : Listed) (pes thousandths : ℕ) (claim : ReorderedClaimed) (found : Option ReorderedClaimFlaw) → IsRun run
    → MatchOption found (IsRightReordered run pes thousandths claim) (IsFirstClaimFlaw run pes thousandths claim) → found ≡ None
    → IsBestOfAll run pes thousandths claim
best_where_no_flaw run pes thousandths claim None is_run right none = best_of_all run pes thousandths claim is_run right
best_where_no_flaw run pes thousandths claim (Some flaw) is_run first none = absurd cc
