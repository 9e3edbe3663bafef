use Rattle.std.proofs.Common.{slice_index, pos, w64, arith}
use Rattle.std.proofs.lemmas.Int.{to_z_pos}
use Rattle.block_assignment.proofs.Steps.{price_put}
use Rattle.block_assignment.proofs.assignment.write_block_prices.Goals as goal

pub loop-b-preserved : goal.loop-b-preserved
loop-b-preserved c =
    let fits = to_z_pos w64 (slice_index c.args.price.now c.loop-b.b) (omega (arith, c.requires.small c.loop-b.b c.loop-b-test.true)) in
    price_put c.loop-b.prices c.loop-b.b (λ b. pos (slice_index c.args.price.now b)) _ (omega arith) fits c.loop-b.invariant
