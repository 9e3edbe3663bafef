use Rattle.std.proofs.Common.{◌≡◌, max, arith, rules}
use Rattle.lb_certificates.specs.Chain.{block_load}
use Rattle.lb_refinement.proofs.GreatestLoads.{greatest_is_peak, greatest_more}
use Rattle.lb_refinement.proofs.heaviest.greatest_load.Goals as goal

pub loop-b-preserved : goal.loop-b-preserved
loop-b-preserved g c =
    let most : c.max-most.result ≡ max c.loop-b.most (block_load c.args.loads.now c.args.cuts.now c.loop-b.b) = search rules in
    rw most (greatest_more c.args.loads.now c.args.cuts.now c.loop-b.b c.loop-b.most (omega (arith, c.requires.divides.counted, c.loop-b-test.true)) c.loop-b.invariant)

pub returns : goal.returns
returns g c =
    record {
      value = greatest_is_peak c.args.loads.now c.args.cuts.now c.loop-b.b c.loop-b.most
          (omega (arith, c.requires.divides.counted, c.loop-b-test.false, c.loop-b.auto.b-end)) c.loop-b.invariant;
    }
