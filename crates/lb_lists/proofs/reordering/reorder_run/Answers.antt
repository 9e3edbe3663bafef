use Rattle.std.proofs.Common.{◌<◌, ◌≤◌, length, ℕ, subst, sym}
use Rattle.chain_refinement.specs.Tolerances.{limit_of}
use Rattle.lb_certificates.specs.Chain.{peak}
use Rattle.lb_refinement.specs.Refined.{least_load, refined_cuts, refined_moved, refined_names, IsRefined}
use Rattle.lb_refinement.specs.declared.refined.Refined.{Refined}
use Rattle.lb_any_order.specs.Reorderings.{HasPlaceBelow, IsReordering}
use Rattle.lb_any_order.proofs.Decided.{blocks, bottleneck, naming, nothing_moves}
use Rattle.lb_lists.specs.Runs.{sizes_of}
use Rattle.lb_lists.proofs.reordering.reorder_run.Goals as goal

pub returns-in-Ok-decided-clause-blocks : goal.returns-in-Ok-decided-clause-blocks
returns-in-Ok-decided-clause-blocks g c =
    let run = c.args.run.now in
    let r = c.in-Ok-decided.decided in
    let on_loads = subst (λ l. IsReordering l c.in-Ok.snapshot.sizes c.args.pes c.args.tolerance r) c.in-Ok.ensures.loads
    (rw c.of.ensures.value at c.in-Ok-decided.ensures.reordering) in
    let decided = subst (λ s. IsReordering run.loads s c.args.pes c.args.tolerance r) c.in-Ok.ensures.sizes on_loads in
    blocks run.loads (sizes_of run) c.args.pes c.args.tolerance r decided

pub returns-in-Ok-decided-clause-naming : goal.returns-in-Ok-decided-clause-naming
returns-in-Ok-decided-clause-naming g c =
    let run = c.args.run.now in
    let r = c.in-Ok-decided.decided in
    let on_loads = subst (λ l. IsReordering l c.in-Ok.snapshot.sizes c.args.pes c.args.tolerance r) c.in-Ok.ensures.loads
    (rw c.of.ensures.value at c.in-Ok-decided.ensures.reordering) in
    let decided = subst (λ s. IsReordering run.loads s c.args.pes c.args.tolerance r) c.in-Ok.ensures.sizes on_loads in
    naming run.loads (sizes_of run) c.args.pes c.args.tolerance r decided

pub returns-in-Ok-decided-clause-peak : goal.returns-in-Ok-decided-clause-peak
returns-in-Ok-decided-clause-peak g c =
    let run = c.args.run.now in
    let r = c.in-Ok-decided.decided in
    let on_loads = subst (λ l. IsReordering l c.in-Ok.snapshot.sizes c.args.pes c.args.tolerance r) c.in-Ok.ensures.loads
    (rw c.of.ensures.value at c.in-Ok-decided.ensures.reordering) in
    let decided = subst (λ s. IsReordering run.loads s c.args.pes c.args.tolerance r) c.in-Ok.ensures.sizes on_loads in
    bottleneck run.loads (sizes_of run) c.args.pes c.args.tolerance r decided

pub returns-in-Ok-decided-clause-within : goal.returns-in-Ok-decided-clause-within
returns-in-Ok-decided-clause-within g c =
    let run = c.args.run.now in
    let r = c.in-Ok-decided.decided in
    let on_loads = subst (λ l. IsReordering l c.in-Ok.snapshot.sizes c.args.pes c.args.tolerance r) c.in-Ok.ensures.loads
    (rw c.of.ensures.value at c.in-Ok-decided.ensures.reordering) in
    let decided = subst (λ s. IsReordering run.loads s c.args.pes c.args.tolerance r) c.in-Ok.ensures.sizes on_loads in
    let peak_is = bottleneck run.loads (sizes_of run) c.args.pes c.args.tolerance r decided in
    let most : peak run.loads (refined_cuts r) ≤ limit_of (least_load r) c.args.tolerance = subst
    (λ l. peak l (refined_cuts r) ≤ limit_of (least_load r) c.args.tolerance) c.in-Ok.ensures.loads c.in-Ok-decided.ensures.within in
    subst (λ n. n ≤ limit_of (least_load r) c.args.tolerance) (sym peak_is) most

pub returns-in-Ok-decided-clause-kept_whole : goal.returns-in-Ok-decided-clause-kept_whole
returns-in-Ok-decided-clause-kept_whole g c names present order within =
    let run = c.args.run.now in
    let r = c.in-Ok-decided.decided in
    let on_loads = subst (λ l. IsReordering l c.in-Ok.snapshot.sizes c.args.pes c.args.tolerance r) c.in-Ok.ensures.loads
    (rw c.of.ensures.value at c.in-Ok-decided.ensures.reordering) in
    let decided = subst (λ s. IsReordering run.loads s c.args.pes c.args.tolerance r) c.in-Ok.ensures.sizes on_loads in
    nothing_moves run.loads (sizes_of run) c.args.pes c.args.tolerance r names present decided order within

pub returns-in-Ok-decided-clause-places : goal.returns-in-Ok-decided-clause-places
returns-in-Ok-decided-clause-places g c =
    let r = c.in-Ok-decided.decided in
    subst (λ s. (i : ℕ) → i < length s → HasPlaceBelow c.args.pes (refined_cuts r) (refined_names r) i) c.in-Ok.ensures.sizes
    (rw c.of.ensures.value at c.in-Ok-decided.ensures.places)

pub returns-in-Ok-decided-clause-no_more : goal.returns-in-Ok-decided-clause-no_more
returns-in-Ok-decided-clause-no_more g c =
    let r = c.in-Ok-decided.decided in
    let on_loads = subst (λ l. (other : Refined _) → IsRefined l c.in-Ok.snapshot.sizes c.args.pes c.args.tolerance other
    → refined_moved r ≤ refined_moved other) c.in-Ok.ensures.loads (rw c.of.ensures.value at c.in-Ok-decided.ensures.no_more) in
    subst (λ s. (other : Refined _) → IsRefined c.args.run.now.loads s c.args.pes c.args.tolerance other
    → refined_moved r ≤ refined_moved other) c.in-Ok.ensures.sizes on_loads
