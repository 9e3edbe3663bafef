use Rattle.std.proofs.Common.{min, length, arith, ap, ◌∙◌}
use Rattle.lb_lists.proofs.HeightRows.{row_done, row_more}
use Rattle.lb_lists.proofs.steps.pairs_between.Goals as goal

pub loop-i-preserved : goal.loop-i-preserved
loop-i-preserved g c =
    let h = c.loop-i.invariant in
    record {
      row = c.in_ok-push.ensures.items ∙ row_more c.args.places.now c.args.rises.now c.args.first c.loop-i.i c.loop-i.pairs.items h.from
          (omega (arith, c.loop-i-test.true, c.min-last.ensures, c.min.ensures)) (omega (arith, c.loop-i-test.true, c.min-last.ensures)) h.row;
      from = omega (arith, h.from);
      inside = λ some. omega (arith, c.loop-i-test.true);
      unmoved = λ none. absurd (omega (arith, none, h.from, c.loop-i-test.true));
    }

pub returns : goal.returns
returns g c =
    let h = c.loop-i.invariant in
    row_done c.args.places.now c.args.rises.now c.args.first c.args.end c.min-last.result c.loop-i.i c.loop-i.pairs.items
    (c.min-last.ensures ∙ ap (λ n. min n (length c.args.rises.now)) c.min.ensures) (omega (arith, c.loop-i-test.false)) h.from h.inside h.unmoved h.row
