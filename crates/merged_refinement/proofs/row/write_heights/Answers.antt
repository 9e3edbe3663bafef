use Rattle.std.proofs.Common.{◌≡◌, ◌-◌, ◌<◌, arith, min, rules, sym}
use Rattle.std.proofs.lemmas.List.{get_or-set_same, length-set}
use Rattle.merged_refinement.proofs.Rows.{least_before}
use Rattle.merged_refinement.proofs.row.write_heights.Goals as goal

pub loop-i-preserved : goal.loop-i-preserved
loop-i-preserved g c =
    let h = c.loop-i.invariant in
    let heights = c.loop-i.heights in
    let i = c.loop-i.i in
    let v = c.min-least.result in
    let some : 0 < i = omega (arith, c.loop-i-test.true) in
    let less : v ≡ min c.loop-i.least c.sum_at.result = search rules in
    record {
      counted = omega (arith, length-set heights (i - 1) v, h.counted);
      inside = omega (arith, length-set heights (i - 1) v, h.inside);
      least_is = sym (get_or-set_same heights (i - 1) v 0 (omega (arith, h.inside)));
      written = least_before _ heights i v some h.inside h.written (omega (arith, less, h.least_is, c.sum_at.ensures.value));
    }
