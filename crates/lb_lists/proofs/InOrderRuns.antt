-- What is decided within a tolerance so that the PEs keep their order, as plain lists.
use Rattle.std.proofs.Common.{◌≡◌, ℕ, Bool, true, false, length, ap, replicate, subst, sym, ◌∙◌}
use Rattle.std.specs.Prelude.{pos}
use Rattle.lb_certificates.specs.Naming.{bytes_moved}
use Rattle.chain_refinement.specs.Orders.{IsPresentOrder}
use Rattle.chain_refinement.specs.Refinement.{AreNearest, AreProved}
use Rattle.chain_refinement.specs.Tolerances.{limit_of}
use Rattle.lb_certificates.specs.declared.division.Division.{Division}
use Rattle.lb_strategy.specs.declared.decision.Decision.{Decision}
use Rattle.lb_refinement.specs.InOrder.{ArePlanPricesSmall, IsInOrderBy, IsKeptInOrder}
use Rattle.lb_refinement.specs.declared.nearness.Nearness.{Nearness}
use Rattle.lb_refinement.specs.declared.nearness.Nearness.TheVariants.{InOrder, Planned}
use Rattle.lb_refinement.specs.declared.nearness.OrderProof.{OrderProof}
use Rattle.lb_lists.specs.RefinedRooms.{told_of_kept, told_of_plan}
use Rattle.lb_lists.specs.Refinings.{IsInOrderRun, IsToldInOrder, Standing, Told}
use Rattle.lb_lists.specs.Runs.{sizes_of, Listed}
use Rattle.lb_lists.proofs.Plans.{certified_by_stops, chosen_by_stops}
use Rattle.lb_lists.proofs.RefinedRuns.{standing_of, told_plan}

-- a decision with prices of 0
pub record IsPriced {A : Type 0} (d e : Decision A) : Type 0 where
  pub division : e.division ≡ d.division
  pub naming : e.naming ≡ d.naming
  pub block_prices : e.prices.u ≡ replicate (length d.naming) (pos 0)
  pub pe_prices : e.prices.v ≡ replicate (length d.naming) (pos 0)
  pub moved : e.moved ≡ d.moved

-- such cuts as plain lists
told_in_order : {A : Type 0} (run : Listed) (pes tolerance : ℕ) (d e : Decision A) (p : OrderProof A) → IsPriced d e
    → IsKeptInOrder run.loads (sizes_of run) pes tolerance (d, p) → IsToldInOrder run pes tolerance (told_of_kept (e, p)) (standing_of (e, p))
told_in_order {A} run pes tolerance d e p priced is =
    let sizes = sizes_of run in
    let order_is : d.naming ≡ p.order = sym is.named in
    let counted : length d.naming ≡ pes = is.order.naming.counted in
    let cuts_are : d.division.cuts ≡ e.division.cuts = ap (λ (x : Division A). x.cuts) (sym priced.division) in
    let proved : AreProved run.loads sizes d.naming (limit_of p.least.bottleneck tolerance) d.division.cuts p.heights = subst
    (λ t. AreProved run.loads sizes d.naming (limit_of p.least.bottleneck t) d.division.cuts p.heights) is.tolerance_is is.right.proved in
    let nearest : AreNearest run.loads sizes d.naming p.present (limit_of p.least.bottleneck tolerance) d.division.cuts = subst
    (λ t. AreNearest run.loads sizes d.naming p.present (limit_of p.least.bottleneck t) d.division.cuts) is.tolerance_is is.nearest in
    record {
      certified = certified_by_stops run.loads pes p.least is.right.least;
      chosen = chosen_by_stops run.loads pes p.least is.chosen;
      order = subst (λ o. IsPresentOrder sizes pes o p.present) order_is is.order;
      proved = subst (λ o. AreProved run.loads sizes o (limit_of p.least.bottleneck tolerance) e.division.cuts p.heights) order_is
          (subst (λ c. AreProved run.loads sizes d.naming (limit_of p.least.bottleneck tolerance) c p.heights) cuts_are proved);
      nearest = subst (λ o. AreNearest run.loads sizes o p.present (limit_of p.least.bottleneck tolerance) e.division.cuts) order_is
          (subst (AreNearest run.loads sizes d.naming p.present (limit_of p.least.bottleneck tolerance)) cuts_are nearest);
      names_are = priced.naming ∙ order_is;
      moved = priced.moved ∙ is.moved_is ∙ ap (λ c. bytes_moved sizes c d.naming) cuts_are ∙ ap (bytes_moved sizes e.division.cuts) (sym priced.naming);
      no_block_prices = priced.block_prices ∙ ap (λ n. replicate n (pos 0)) counted;
      no_pe_prices = priced.pe_prices ∙ ap (λ n. replicate n (pos 0)) counted;
    }

-- the decision of the plan as plain lists, where there is no order
pub told_as_plan : {A : Type 0} (run : Listed) (pes tolerance : ℕ) (d : Decision A) (n : Nearness A) (near : Bool) (told : Told) (standing : Standing)
    → n ≡ Planned → near ≡ false → told ≡ told_of_plan d → IsInOrderBy run.loads (sizes_of run) pes tolerance d n
    → ArePlanPricesSmall (sizes_of run) d n → IsInOrderRun run pes tolerance near told standing
told_as_plan run pes tolerance d n near told standing is near_is told_is refined small =
    let planned = subst (IsInOrderBy run.loads (sizes_of run) pes tolerance d) is refined in
    let bounded = subst (ArePlanPricesSmall (sizes_of run) d) is small in
    let whole : IsInOrderRun run pes tolerance false (told_of_plan d) standing = (told_plan run pes d planned.0, planned.1, bounded) in
    let in_told = subst (λ t. IsInOrderRun run pes tolerance false t standing) (sym told_is) whole in
    subst (λ b. IsInOrderRun run pes tolerance b told standing) (sym near_is) in_told

-- what is known of cuts that keep the order
pub order_kept : {A : Type 0} (run : Listed) (pes tolerance : ℕ) (d : Decision A) (n : Nearness A) (p : OrderProof A) → n ≡ InOrder p
    → IsInOrderBy run.loads (sizes_of run) pes tolerance d n → IsKeptInOrder run.loads (sizes_of run) pes tolerance (d, p)
order_kept run pes tolerance d n p is refined = subst (IsInOrderBy run.loads (sizes_of run) pes tolerance d) is refined

-- cuts near the present ones as plain lists
pub told_as_near : {A : Type 0} (run : Listed) (pes tolerance : ℕ) (d e : Decision A) (n : Nearness A) (p : OrderProof A) (near : Bool) (told : Told) (standing : Standing)
    → n ≡ InOrder p → IsPriced d e → near ≡ true → told ≡ told_of_kept (e, p) → standing ≡ standing_of (e, p)
    → IsInOrderBy run.loads (sizes_of run) pes tolerance d n → IsInOrderRun run pes tolerance near told standing
told_as_near run pes tolerance d e n p near told standing is priced near_is told_is standing_is refined =
    let whole = told_in_order run pes tolerance d e p priced (order_kept run pes tolerance d n p is refined) in
    let in_told = subst (λ t. IsInOrderRun run pes tolerance true t (standing_of (e, p))) (sym told_is) whole in
    let in_standing = subst (IsInOrderRun run pes tolerance true told) (sym standing_is) in_told in
    subst (λ b. IsInOrderRun run pes tolerance b told standing) (sym near_is) in_standing
