use Rattle.std.proofs.Common.{◌≡◌, ℕ, List, subst}
use Rattle.chain_refinement.specs.Orders.{IsPresentOrder}
use Rattle.chain_refinement.specs.Refinement.{AreWithin}
use Rattle.chain_refinement.specs.Tolerances.{limit_of}
use Rattle.lb_refinement.proofs.InOrderCases.{nearest}
use Rattle.lb_refinement.specs.InOrder.{IsRefinedInOrder}
use Rattle.lb_refinement.specs.Refined.{least_load, refined_moved}
use Rattle.lb_lists.specs.Runs.{sizes_of}
use Rattle.lb_lists.proofs.in_order.refine_run_in_order.Goals as goal

pub returns-in-Ok-refined-clause-refined : goal.returns-in-Ok-refined-clause-refined
returns-in-Ok-refined-clause-refined g c =
    let run = c.args.run.now in
    let on_loads = subst (λ l. IsRefinedInOrder l c.in-Ok.snapshot.sizes c.args.pes c.args.tolerance c.in-Ok-refined.refined)
    c.in-Ok.ensures.loads (rw c.of.ensures.value at c.in-Ok-refined.ensures.refined) in
    subst (λ s. IsRefinedInOrder run.loads s c.args.pes c.args.tolerance c.in-Ok-refined.refined) c.in-Ok.ensures.sizes on_loads

pub returns-in-Ok-refined-clause-nearest : goal.returns-in-Ok-refined-clause-nearest
returns-in-Ok-refined-clause-nearest g c names present order =
    let run = c.args.run.now in
    let on_loads = subst (λ l. IsRefinedInOrder l c.in-Ok.snapshot.sizes c.args.pes c.args.tolerance c.in-Ok-refined.refined)
    c.in-Ok.ensures.loads (rw c.of.ensures.value at c.in-Ok-refined.ensures.refined) in
    let refined = subst (λ s. IsRefinedInOrder run.loads s c.args.pes c.args.tolerance c.in-Ok-refined.refined) c.in-Ok.ensures.sizes on_loads in
    nearest run.loads (sizes_of run) c.args.pes c.args.tolerance c.in-Ok-refined.refined names present refined order

pub returns-in-Ok-refined-clause-kept_whole : goal.returns-in-Ok-refined-clause-kept_whole
returns-in-Ok-refined-clause-kept_whole g c =
    let r = c.in-Ok-refined.refined in
    let on_loads = subst (λ l. (names present : List ℕ) → IsPresentOrder c.in-Ok.snapshot.sizes c.args.pes names present
    → AreWithin l names (limit_of (least_load r) c.args.tolerance) present → refined_moved r ≡ 0)
    c.in-Ok.ensures.loads (rw c.of.ensures.value at c.in-Ok-refined.ensures.kept_whole) in
    subst (λ s. (names present : List ℕ) → IsPresentOrder s c.args.pes names present
    → AreWithin c.args.run.now.loads names (limit_of (least_load r) c.args.tolerance) present → refined_moved r ≡ 0) c.in-Ok.ensures.sizes on_loads
