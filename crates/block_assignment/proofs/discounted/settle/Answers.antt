use Rattle.std.proofs.Common.{◌<◌, length, arith}
use Rattle.block_assignment.proofs.discounted.settle.Goals as goal

pub lower_all-requires : goal.lower_all-requires
lower_all-requires c =
    record {
      high = λ k inside.
          let h = c.requires.high k inside in
          let at : h.0 < length c.add_all.new.numbers = omega (arith, h.1, c.add_all.auto.numbers) in
          omega (arith, h.2, c.least_of-least.ensures.low h.0 at, c.add_all.ensures h.0 at);
    }
