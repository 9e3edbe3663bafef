use Rattle.std.specs.String.{string_bytes}
use Rattle.lb_replay.proofs.BlockLines.{line_written}
use Rattle.lb_replay.proofs.text.push_blocks.Goals as goal

pub loop-b-preserved : goal.loop-b-preserved
loop-b-preserved g c =
    line_written c.args.loads.now c.args.cuts.now c.args.names.now c.loop-b.b c.load-load.result (string_bytes c.args.text.now)
    (string_bytes c.loop-b.text) _ c.load-load.ensures.value c.loop-b.invariant c.in_ok-push_block.ensures
