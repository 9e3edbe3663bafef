use Rattle.std.proofs.Common.{Option, Some, List, ℕ, ap, sym, subst}
use Rattle.std.specs.Option.{option_map}
use Rattle.workload.specs.Text.{WorkloadView}
use Rattle.checkpointed_runs.specs.Pausing.{KeepsAt}
use Rattle.checkpointed_runs.proofs.Kept.{keeps_replaced}
use Rattle.checkpointed_runs.proofs.checkpoints.Checkpoints.keep.Goals as goal

-- src/checkpoints.rt:173:5
pub returns-clause-asked : goal.returns-clause-asked
returns-clause-asked g c =
    let old = g.F.CheckpointFiles.asked c.args.self.now.files in
    let now = g.F.CheckpointFiles.asked c.replace.new.files in
    subst (λ (n : Option (List ℕ)). KeepsAt n c.args.self.now.workload c.args.decided.now c.args.places.now old now c.replace.result)
    (sym (ap (option_map (λ name. name.now)) c.in-Some-Some.is-0))
    (subst (λ (w : Option WorkloadView). KeepsAt (Some c.in-Some-Some.name.now) w c.args.decided.now c.args.places.now old now c.replace.result)
    (sym c.in-Some-Some.is-1)
    (keeps_replaced c.in-Some-Some.name.now
    record { decided = c.args.decided.now; places = c.args.places.now; workload = c.in-Some-Some.workload }
    old now c.replace.result c.replace.ensures.asked))
