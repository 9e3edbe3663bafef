use Rattle.std.proofs.Common.{arith}
use Rattle.hot_spot_strip.proofs.OpeningStrips.{cells_more}
use Rattle.hot_spot_strip.proofs.chain.cells.Goals as goal

pub loop-number-preserved : goal.loop-number-preserved
loop-number-preserved g c =
    rw (c.in_ok-push.ensures.items, c.loop-number.invariant, c.mix.ensures.value) (cells_more c.args.first c.loop-number.number (omega arith))
