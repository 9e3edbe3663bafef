use Rattle.std.proofs.Common.{ℕ, List, Some, Bor, refl}
use Rattle.std.specs.Option.{option_map}
use Rattle.checkpointed_runs.proofs.Kept.{noted_off}
use Rattle.checkpointed_runs.proofs.checkpoints.Checkpoints.begin.Goals as goal

pub returns-then-not-is_on-clause-asked : goal.returns-then-not-is_on-clause-asked
returns-then-not-is_on-clause-asked g c =
    let at = λ (name : Bor (List ℕ)). name.now in
    noted_off (option_map at c.args.self.now.name) (Some c.args.workload) c.args.before.items c.args.places.now at c.args.self.now.name
    (g.F.CheckpointFiles.asked c.args.self.now.files) c.args.self.now.failed refl c.if-not-is_on.ensures.value
