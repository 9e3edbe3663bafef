use Rattle.std.proofs.Common.{◌≡◌, ℕ, List, Bor}
use Rattle.std.specs.Option.{option_map}
use Rattle.checkpointed_runs.specs.Pausing.{all_decided, last_places}
use Rattle.checkpointed_runs.proofs.Kept.{kept_as}
use Rattle.checkpointed_runs.proofs.checkpoints.Checkpoints.keep_after.Goals as goal

pub returns-clause-asked : goal.returns-clause-asked
returns-clause-asked g c =
    let at = λ (name : Bor (List ℕ)). name.now in
    let rounds : c.deref-2.result.now ≡ all_decided c.args.self.now.before.items c.args.outcome.now.board.rounds = cc (c.deref-2.ensures.value, c.in_ok-decided.ensures.value, c.deref.ensures.value, c.rounds.ensures.value) in
    let places : c.deref-3.result.now ≡ last_places c.args.outcome.now.board = cc (c.deref-3.ensures.value, c.in_ok-places.ensures.value, c.board.ensures.value) in
    kept_as (option_map at c.args.self.now.name) c.args.self.now.workload (all_decided c.args.self.now.before.items c.args.outcome.now.board.rounds)
    (last_places c.args.outcome.now.board) c.deref-2.result.now c.deref-3.result.now (g.F.CheckpointFiles.asked c.args.self.now.files)
    (g.F.CheckpointFiles.asked c.keep.new.self.files) c.keep.result rounds places c.keep.ensures.asked
