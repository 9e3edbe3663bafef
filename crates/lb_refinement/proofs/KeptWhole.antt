-- Where the present blocks are within the limit, nothing moves.
use Rattle.std.proofs.Common.{◌≡◌, ℕ, ◌≤◌, List, length, slice_index, slice_index_or, arith, ap, sym, ◌∙◌, subst, inl, inr}
use Rattle.std.proofs.lemmas.Bool.Decides.{nat_tests}
use Rattle.chain_partition.proofs.ChosenOnce.{only_from_chosen}
use Rattle.lb_certificates.specs.Naming.{block_of, bytes_moved, moved_bytes}
use Rattle.lb_certificates.specs.declared.division.Division.{Division}
use Rattle.lb_certificates.proofs.BlockSums.{block_of_is}
use Rattle.lb_certificates.proofs.Totals.{total_none, total_same}
use Rattle.chain_refinement.specs.Orders.{IsPresentOrder, StandInOrder}
use Rattle.chain_refinement.specs.Refinement.{AreWithin, refined_limit}
use Rattle.chain_refinement.specs.Tolerances.{limit_of}
use Rattle.chain_refinement.proofs.Orders.{block_around}
use Rattle.chain_refinement.proofs.OneOrder.{one_order}
use Rattle.lb_strategy.specs.declared.decision.Decision.{Decision}
use Rattle.lb_refinement.specs.Refined.{IsKept, IsRefined, IsRefinedBy, Kept, least_by, least_load, refined_moved, refinement_of}
use Rattle.lb_refinement.specs.declared.nearness.Nearness.{Nearness}
use Rattle.lb_refinement.specs.declared.nearness.Nearness.TheVariants.{Planned, InOrder, InAnyOrder}
use Rattle.lb_refinement.specs.declared.refined.Refined.{Refined}

stays : (size : ℕ × ℕ) (pe : ℕ) → size.1 ≡ pe → moved_bytes size pe ≡ 0
stays size pe same = grind (arith, nat_tests)

-- nothing moves where each block runs on the PE that its elements are on
pub none_moves : (sizes : List (ℕ × ℕ)) (names present : List ℕ) → StandInOrder sizes names present → bytes_moved sizes present names ≡ 0
none_moves sizes names present order =
    total_same (length sizes) (λ i. moved_bytes (slice_index_or sizes i (0, 0)) (slice_index names (block_of present i))) (λ _. 0) (λ i inside.
    let around = block_around present (length names) i (omega (arith, order.divides.starts)) (omega (arith, order.divides.ends)) in
    let block : block_of present i ≡ around.0 = block_of_is (length sizes) (length names) present around.0 i order.divides around.1 around.2 around.3 in
    stays (slice_index_or sizes i (0, 0)) (slice_index names (block_of present i))
    (order.stands around.0 i around.1 around.2 around.3 ∙ ap (slice_index names) (sym block))) ∙ total_none (length sizes)

kept_moves_none : {A : Type 0} (loads : List ℕ) (sizes : List (ℕ × ℕ)) (pes tolerance : ℕ) (k : Kept A) (names present : List ℕ)
    → IsKept loads sizes pes tolerance k → IsPresentOrder sizes pes names present → AreWithin loads names (refined_limit (refinement_of k)) present → k.0.moved ≡ 0
kept_moves_none loads sizes pes tolerance k names present kept order within =
    let orders = one_order sizes pes k.1.order k.1.present names present kept.order order in
    let also : AreWithin loads k.1.order (refined_limit (refinement_of k)) present = subst
    (λ ns. AreWithin loads ns (refined_limit (refinement_of k)) present) (sym orders.0) within in
    let few : bytes_moved sizes k.0.division.cuts k.1.order ≤ bytes_moved sizes present k.1.order = kept.nearest.fewest.fewest present also in
    let none : bytes_moved sizes present k.1.order ≡ 0 = subst (λ ns. bytes_moved sizes present ns ≡ 0) (sym orders.0) (none_moves sizes names present order.in_order) in
    let cheapest : bytes_moved sizes k.0.division.cuts k.0.naming ≤ bytes_moved sizes k.0.division.cuts
    k.1.order = kept.least_naming.cheapest k.1.order kept.order.naming in
    omega (arith, kept.moved_is, cheapest, few, none)

whole_by : {A : Type 0} (loads : List ℕ) (sizes : List (ℕ × ℕ)) (pes tolerance : ℕ) (d : Decision A) (n : Nearness A) (names present : List ℕ)
    → IsRefinedBy loads sizes pes tolerance d n → IsPresentOrder sizes pes names present
    → AreWithin loads names (limit_of (least_by d n).bottleneck tolerance) present → d.moved ≡ 0
whole_by loads sizes pes tolerance d (InOrder proof) names present refined order within =
    kept_moves_none loads sizes pes tolerance (d, proof) names present refined.0 order
    (subst (λ t. AreWithin loads names (limit_of proof.least.bottleneck t) present) (sym refined.0.tolerance_is) within)
whole_by loads sizes pes tolerance d Planned names present (planned, inl none) order within =
    absurd (none names present order.naming order.in_order)
whole_by {A} loads sizes pes tolerance d Planned names present (planned, inr (k, kept, no_more)) order within =
    let division : d.division ≡ k.1.least = only_from_chosen loads pes k.1.least kept.chosen d.division planned.chosen in
    let limit : limit_of d.division.bottleneck tolerance ≡ refined_limit (refinement_of k) = ap
    (λ (v : Division A). limit_of v.bottleneck tolerance) division ∙ ap (limit_of k.1.least.bottleneck) (sym kept.tolerance_is) in
    let none : k.0.moved ≡ 0 = kept_moves_none loads sizes pes tolerance k names present kept order (subst (λ n. AreWithin loads names n present) limit within) in
    omega (arith, no_more, none)
whole_by loads sizes pes tolerance d (InAnyOrder proof) names present refined order within = absurd refined

pub whole : {A : Type 0} (loads : List ℕ) (sizes : List (ℕ × ℕ)) (pes tolerance : ℕ) (r : Refined A) (names present : List ℕ)
    → IsRefined loads sizes pes tolerance r → IsPresentOrder sizes pes names present
    → AreWithin loads names (limit_of (least_load r) tolerance) present → refined_moved r ≡ 0
whole loads sizes pes tolerance r = whole_by loads sizes pes tolerance r.decision r.nearness
