use Rattle.std.proofs.Common.{◌+◌, ◌≤◌, arith, ◌∙◌}
use Rattle.std.specs.List.{zip}
use Rattle.lb_lists.proofs.Zipped.{all_pairs, one_more_block}
use Rattle.lb_lists.proofs.snapshot.pairs_of.Goals as goal

pub loop-first-preserved : goal.loop-first-preserved
loop-first-preserved g c =
    let first = c.loop-first.first in
    let ordered : first ≤ first + c.min.result = omega arith in
    record {
      inside = omega (arith, c.loop-first.invariant.inside);
      pushed = c.in_ok-extend_from_slice.ensures.items ∙ one_more_block c.loop-first.pairs.items (zip c.args.bytes.now c.args.places.now) _
          first (first + c.min.result) ordered c.loop-first.invariant.pushed c.write_pairs.ensures;
    }

pub returns : goal.returns
returns g c = c.loop-first.invariant.pushed ∙ all_pairs c.args.bytes.now c.args.places.now c.loop-first.first (omega (arith, c.loop-first-test.false)) c.requires.counted
