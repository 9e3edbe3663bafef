-- What an answer of the check implies.
use Rattle.std.proofs.Common.{◌≡◌, ℕ, ◌≤◌, ◌↔◌, ◌+◌, List, length, Result, Ok, Err, IsOk, OnOk, IfErr, arith, refl}
use Rattle.lb_certificates.specs.Certificate.{IsCertified}
use Rattle.lb_certificates.specs.Chain.{peak}
use Rattle.lb_certificates.specs.Naming.{bytes_moved}
use Rattle.lb_certificates.proofs.LeastDivisions.{peak_within}
use Rattle.any_order.specs.declared.flaw.ReorderedFlaw.{ReorderedFlaw}
use Rattle.any_order.specs.declared.reordered.Reordered.{Reordered}
use Rattle.any_order.specs.AnyOrder.{AreFewestOfAll, bound_at, IsPlan, IsReordered, reordered_limit}
use Rattle.any_order.specs.Flaws.{HasReorderedFlaw, IsFirstReorderedFlaw}
use Rattle.any_order.specs.Internal.{AreOrdered, bounded_of, RisesUpTo}
use Rattle.any_order.proofs.LowerBounds.{fewest_from_bounds}
use Rattle.any_order.proofs.Corners.{few_places}
use Rattle.any_order.proofs.FirstFlaws.{AreRows, AreStarted, right_is_flawless}

-- a reordered division whose parts are right
pub right_by_parts : {A : Type 0} (loads : List ℕ) (sizes : List (ℕ × ℕ)) (pes : ℕ) (r : Reordered A) → IsCertified loads pes r.least
    → AreOrdered pes r.names → IsPlan loads pes (reordered_limit r) r.cuts r.names → AreRows pes r → AreStarted r
    → RisesUpTo (bounded_of loads sizes r) pes → bytes_moved sizes r.cuts r.names ≤ bound_at r.any pes (length loads) → IsReordered loads sizes pes r
right_by_parts loads sizes pes r least order plan rows started risen ends =
    record {
      least = least;
      some_pe = order.some_pe;
      few_pes = order.few_pes;
      plan = plan;
      any_counted = rows.any;
      free_counted = rows.free;
      bounds = record {
        any_starts = started.any;
        free_starts = started.free;
        rises = λ b inside. few_places loads sizes (reordered_limit r) (bound_at r.any b) (bound_at r.free b) (bound_at r.any (b + 1))
            (bound_at r.free (b + 1)) (λ y x onward within light corner. risen b inside y (omega arith) x onward (omega arith) within light corner);
        ends = ends;
      };
    }

-- a check that accepts only what is right, and otherwise names a flaw that applies, is exact
pub accepts_exactly : {A T : Type 0} (loads : List ℕ) (sizes : List (ℕ × ℕ)) (pes : ℕ) (r : Reordered A) (answer : Result T ReorderedFlaw)
    → OnOk answer (IsReordered loads sizes pes r) → IfErr answer (IsFirstReorderedFlaw (HasReorderedFlaw loads sizes pes r))
    → IsOk answer ↔ IsReordered loads sizes pes r
accepts_exactly loads sizes pes r (Ok _) right first = (λ _. right, λ _. refl)
accepts_exactly loads sizes pes r (Err flaw) right first =
    (λ accepted. absurd cc, λ holds. absurd (right_is_flawless loads sizes pes r holds flaw first.applies_itself))

-- no block of a reordered division that is right is above the limit
pub peak_where_right : {A : Type 0} (loads : List ℕ) (sizes : List (ℕ × ℕ)) (pes : ℕ) (r : Reordered A) → IsReordered loads sizes pes r → peak loads r.cuts ≤ reordered_limit r
peak_where_right loads sizes pes r right =
    peak_within loads pes (reordered_limit r) r.cuts right.plan.divides right.plan.within

-- and it moves the fewest bytes
pub fewest_where_right : {A T : Type 0} (loads : List ℕ) (sizes : List (ℕ × ℕ)) (pes : ℕ) (r : Reordered A) (answer : Result T ReorderedFlaw)
    → OnOk answer (length loads ≡ length sizes) → OnOk answer (IsReordered loads sizes pes r)
    → OnOk answer (AreFewestOfAll loads sizes pes (reordered_limit r) r.cuts r.names)
fewest_where_right loads sizes pes r (Ok _) paired right =
    fewest_from_bounds loads sizes pes (reordered_limit r) (bound_at r.any) (bound_at r.free) r.cuts r.names paired right.plan right.bounds
fewest_where_right loads sizes pes r (Err _) paired right = tt
