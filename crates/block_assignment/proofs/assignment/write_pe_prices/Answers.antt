use Rattle.std.proofs.Common.{slice_index, pos, neg_ℤ, arith}
use Rattle.block_assignment.proofs.Steps.{below_0, price_put}
use Rattle.block_assignment.proofs.assignment.write_pe_prices.Goals as goal

pub loop-p-preserved : goal.loop-p-preserved
loop-p-preserved c =
    let below = below_0 (slice_index c.args.discount.now c.loop-p.p) (c.requires.small c.loop-p.p c.loop-p-test.true) in
    price_put c.loop-p.prices c.loop-p.p (λ p. neg_ℤ (pos (slice_index c.args.discount.now p))) _ (omega arith) below c.loop-p.invariant
