use Rattle.std.proofs.Common.{ℕ, ◌+◌, length, below_more}
use Rattle.any_order.specs.Internal.{RisesFrom}
use Rattle.any_order.proofs.steep.first_block.Goals as goal

pub loop-y-preserved : goal.loop-y-preserved
loop-y-preserved c =
    let claim = c.args.claim.now in
    record {
      risen = below_more (λ (y : ℕ). RisesFrom claim y (length claim.loads + 1)) c.loop-y.y c.loop-y.invariant.risen c.in_default.ensures.first;
      low = c.low_on-next.ensures.at;
      high = c.high_on-high.ensures.at;
    }
