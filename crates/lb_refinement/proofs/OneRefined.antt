-- The snapshot, the number of PEs and the tolerance determine the refined decision, except for heights and prices.
use Rattle.std.proofs.Common.{◌≡◌, ℕ, List, length, arith, ap, sym, ◌∙◌, subst, inl, inr}
use Rattle.chain_partition.proofs.ChosenOnce.{only_from_chosen}
use Rattle.lb_certificates.specs.Chain.{peak}
use Rattle.lb_certificates.specs.Naming.{bytes_moved, IsLeastNaming}
use Rattle.lb_certificates.specs.declared.division.Division.{Division}
use Rattle.lb_certificates.proofs.LeastNamings.{one_least}
use Rattle.lb_strategy.specs.Decisions.{IsPlanned}
use Rattle.lb_strategy.specs.Moves.{moves_below}
use Rattle.lb_strategy.specs.declared.decision.Decision.{Decision}
use Rattle.lb_strategy.proofs.OneDecisions.{IsSame, one_decision}
use Rattle.chain_refinement.specs.Refinement.{AreNearest, refined_limit}
use Rattle.chain_refinement.specs.Tolerances.{limit_of}
use Rattle.chain_refinement.proofs.Nearest.{one_is_nearest}
use Rattle.chain_refinement.proofs.OneOrder.{one_order}
use Rattle.lb_refinement.specs.Refined.{AreSame, IsKept, IsRefined, IsRefinedBy, IsThePlan, Kept, refinement_of}
use Rattle.lb_refinement.specs.declared.nearness.Nearness.{Nearness}
use Rattle.lb_refinement.specs.declared.nearness.Nearness.TheVariants.{Planned, InOrder, InAnyOrder}
use Rattle.lb_refinement.specs.declared.refined.Refined.{Refined}

-- what two kept decisions have in common
pub record AreKeptSame {A : Type 0} (k e : Kept A) : Type 0 where
  pub cuts : k.0.division.cuts ≡ e.0.division.cuts
  pub bottleneck : k.0.division.bottleneck ≡ e.0.division.bottleneck
  pub naming : k.0.naming ≡ e.0.naming
  pub moved : k.0.moved ≡ e.0.moved
  pub moves : k.0.moves ≡ e.0.moves

pub one_kept : {A : Type 0} (loads : List ℕ) (sizes : List (ℕ × ℕ)) (pes tolerance : ℕ) (k e : Kept A) → IsKept loads sizes pes tolerance k
    → IsKept loads sizes pes tolerance e → AreKeptSame k e
one_kept {A = A} loads sizes pes tolerance k e one other =
    record {
      cuts = cuts;
      bottleneck = one.bottleneck_is ∙ ap (peak loads) cuts ∙ sym other.bottleneck_is;
      naming = naming;
      moved = one.moved_is ∙ ap (λ xs. bytes_moved sizes xs k.0.naming) cuts ∙ ap (λ xs. bytes_moved sizes e.0.division.cuts xs) naming ∙ sym other.moved_is;
      moves = one.moves_are ∙ ap (λ xs. moves_below sizes xs k.0.naming (length sizes)) cuts
          ∙ ap (λ xs. moves_below sizes e.0.division.cuts xs (length sizes)) naming ∙ sym other.moves_are;
    }
  where
    orders : (k.1.order ≡ e.1.order) × (k.1.present ≡ e.1.present)
    orders = one_order sizes pes k.1.order k.1.present e.1.order e.1.present one.order other.order

    division : k.1.least ≡ e.1.least
    division = only_from_chosen loads pes e.1.least other.chosen k.1.least one.chosen

    limit : refined_limit (refinement_of k) ≡ refined_limit (refinement_of e)
    limit = ap (λ (d : Division A). limit_of d.bottleneck k.1.tolerance) division ∙ ap (limit_of e.1.least.bottleneck) (one.tolerance_is ∙ sym other.tolerance_is)

    nearest : AreNearest loads sizes e.1.order e.1.present (refined_limit (refinement_of e)) k.0.division.cuts
    nearest = subst (λ n. AreNearest loads sizes e.1.order e.1.present n k.0.division.cuts) limit
        (subst (λ ns. AreNearest loads sizes ns e.1.present (refined_limit (refinement_of k)) k.0.division.cuts) orders.0
        (subst (λ ps. AreNearest loads sizes k.1.order ps (refined_limit (refinement_of k)) k.0.division.cuts) orders.1 one.nearest))

    cuts : k.0.division.cuts ≡ e.0.division.cuts
    cuts = one_is_nearest loads sizes e.1.order e.1.present (refined_limit (refinement_of e)) k.0.division.cuts e.0.division.cuts nearest other.nearest

    naming : k.0.naming ≡ e.0.naming
    naming = one_least pes (bytes_moved sizes k.0.division.cuts) k.0.naming e.0.naming one.least_naming
        (subst (λ xs. IsLeastNaming sizes xs pes e.0.naming) (sym cuts) other.least_naming)

-- what is planned is the plan
pub the_plan : {A : Type 0} (loads : List ℕ) (sizes : List (ℕ × ℕ)) (pes : ℕ) (d : Decision A) → IsPlanned loads sizes pes d → IsThePlan loads sizes pes d
the_plan loads sizes pes d planned =
    record { right = planned.right; chosen = planned.chosen; least_naming = planned.least_naming }

pub one_planned : {A : Type 0} (loads : List ℕ) (sizes : List (ℕ × ℕ)) (pes : ℕ) (d e : Decision A) → IsThePlan loads sizes pes d → IsThePlan loads sizes pes e → IsSame d e
one_planned loads sizes pes d e one other =
    one_decision loads sizes pes d e one.chosen other.chosen one.least_naming other.least_naming one.right other.right

-- where the plan is the decision, since it moves no more bytes than the kept cuts, these are not the decision
not_both : {A : Type 0} (loads : List ℕ) (sizes : List (ℕ × ℕ)) (pes tolerance : ℕ) (d : Decision A) (k : Kept A)
    → IsRefinedBy loads sizes pes tolerance d Planned → IsRefinedBy loads sizes pes tolerance k.0 (InOrder k.1) → ⊥
not_both loads sizes pes tolerance d k (planned, inl none) (kept, (e, also, less)) =
    none k.1.order k.1.present kept.order.naming kept.order.in_order
not_both loads sizes pes tolerance d k (planned, inr (f, found, no_more)) (kept, (e, also, less)) =
    let same = one_kept loads sizes pes tolerance f k found kept in
    let plan = one_planned loads sizes pes d e planned also in
    absurd (omega (arith, no_more, same.moved, less, plan.moved))

-- two decisions have the same cuts, names, bytes and moves
pub record AreAlike {A : Type 0} (d e : Decision A) : Type 0 where
  pub cuts : d.division.cuts ≡ e.division.cuts
  pub names : d.naming ≡ e.naming
  pub bottleneck : d.division.bottleneck ≡ e.division.bottleneck
  pub moved : d.moved ≡ e.moved
  pub moves : d.moves ≡ e.moves

one_by : {A : Type 0} (loads : List ℕ) (sizes : List (ℕ × ℕ)) (pes tolerance : ℕ) (d : Decision A) (n : Nearness A) (e : Decision A) (m : Nearness A)
    → IsRefinedBy loads sizes pes tolerance d n → IsRefinedBy loads sizes pes tolerance e m → AreAlike d e
one_by loads sizes pes tolerance d Planned e Planned one other =
    let same = one_planned loads sizes pes d e one.0 other.0 in
    record { cuts = same.cuts; names = same.naming; bottleneck = same.bottleneck; moved = same.moved; moves = same.moves }
one_by loads sizes pes tolerance d (InOrder p) e (InOrder q) one other =
    let same = one_kept loads sizes pes tolerance (d, p) (e, q) one.0 other.0 in
    record { cuts = same.cuts; names = same.naming; bottleneck = same.bottleneck; moved = same.moved; moves = same.moves }
one_by loads sizes pes tolerance d Planned e (InOrder q) one other =
    absurd (not_both loads sizes pes tolerance d (e, q) one other)
one_by loads sizes pes tolerance d (InOrder p) e Planned one other =
    absurd (not_both loads sizes pes tolerance e (d, p) other one)
one_by loads sizes pes tolerance d (InAnyOrder p) e m one other = absurd one
one_by loads sizes pes tolerance d Planned e (InAnyOrder q) one other = absurd other
one_by loads sizes pes tolerance d (InOrder p) e (InAnyOrder q) one other = absurd other

pub one_refined : {A : Type 0} (loads : List ℕ) (sizes : List (ℕ × ℕ)) (pes tolerance : ℕ) (one other : Refined A)
    → IsRefined loads sizes pes tolerance one → IsRefined loads sizes pes tolerance other → AreSame one other
one_refined loads sizes pes tolerance r s one other =
    let same = one_by loads sizes pes tolerance r.decision r.nearness s.decision s.nearness one other in
    record { cuts = same.cuts; names = same.names; bottleneck = same.bottleneck; moved = same.moved; moves = same.moves }
