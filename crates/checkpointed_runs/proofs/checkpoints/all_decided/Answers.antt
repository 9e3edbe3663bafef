use Rattle.std.proofs.Common.{arith}
use Rattle.checkpointed_runs.specs.Pausing.{round_of}
use Rattle.checkpointed_runs.proofs.Deciding.{all_over, moved_over}
use Rattle.checkpointed_runs.proofs.checkpoints.all_decided.Goals as goal

pub loop-kept-preserved : goal.loop-kept-preserved
loop-kept-preserved g c =
    moved_over round_of c.args.before.now c.loop-kept.all.items c.push.new.self.items c.args.rounds.now c.loop-kept.kept-index c.kept-item.result c.round_of.result
    c.loop-kept-test.true c.kept-item.is c.round_of.ensures.value c.in_ok-push.ensures.items c.loop-kept.invariant

pub returns : goal.returns
returns g c =
    record { value = all_over round_of c.args.before.now c.loop-kept.all.items c.args.rounds.now c.loop-kept.kept-index (omega arith) c.loop-kept.invariant }
