use Rattle.std.proofs.Common.{length-set, arith, ◌∙◌}
use Rattle.lb_lists.proofs.Zipped.{one_more_pair}
use Rattle.lb_lists.proofs.snapshot.write_pairs.Goals as goal

pub loop-i-preserved : goal.loop-i-preserved
loop-i-preserved c =
    record {
      counted = length-set c.loop-i.block _ _ ∙ c.loop-i.invariant.counted;
      written = one_more_pair c.args.bytes.now c.args.places.now c.loop-i.block c.args.first c.loop-i.i c.pe.result
          (omega (arith, c.loop-i.auto.i)) (omega (arith, c.loop-i-test.true, c.requires.inside))
          (omega (arith, c.loop-i-test.true, c.requires.room, c.loop-i.invariant.counted)) c.requires.counted c.pe.ensures c.loop-i.invariant.written;
    }
