use Rattle.std.proofs.Common.{◌<◌, length, arith}
use Rattle.lb_certificates.specs.Naming.{blocks_between}
use Rattle.lb_lists.proofs.Blocks.{one_more_written, same_count}
use Rattle.lb_lists.proofs.places.write_places.Goals as goal

pub loop-b-preserved : goal.loop-b-preserved
loop-b-preserved c =
    let b = c.loop-b.b in
    let inside : b < blocks_between c.args.cuts.now = omega (arith, c.loop-b-test.true, c.requires.named) in
    let counted = c.loop-b.invariant.counted in
    let filled = c.fill.ensures.after (λ _ same. same) in
    record {
      counted = same_count (length c.args.new_places.now) (blocks_between c.args.cuts.now) c.args.cuts.now c.args.names.now
          c.loop-b.new_places c.fill.new.self b c.requires.divides inside counted filled;
      placed = one_more_written (length c.args.new_places.now) (blocks_between c.args.cuts.now) c.args.cuts.now c.args.names.now
          c.loop-b.new_places c.fill.new.self b c.requires.divides inside counted filled c.loop-b.invariant.placed;
    }
