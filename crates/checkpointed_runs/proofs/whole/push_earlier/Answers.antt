use Rattle.std.specs.String.{string_bytes}
use Rattle.checkpointed_runs.proofs.RoundLines.{earlier_written}
use Rattle.checkpointed_runs.proofs.whole.push_earlier.Goals as goal

pub loop-i-preserved : goal.loop-i-preserved
loop-i-preserved g c =
    let at = c.loop-i in
    earlier_written c.args.decided.now at.i (record { bottleneck = 0; moved = 0 }) (string_bytes c.args.text.now) (string_bytes at.text)
    (string_bytes c.push_round.new.text) c.loop-i-test.true at.invariant c.in_ok-push_round.ensures.line
