use Rattle.std.proofs.Common.{arith, ◌∙◌}
use Rattle.std.specs.List.{zip}
use Rattle.lb_lists.proofs.HeightRows.{one_more_row}
use Rattle.lb_lists.proofs.reordered_checking.rows_from.Goals as goal

pub loop-b-preserved : goal.loop-b-preserved
loop-b-preserved g c =
    let h = c.loop-b.invariant in
    record {
      rows = c.in_ok-push.ensures.items ∙ one_more_row c.args.starts.now (zip c.args.places.now c.args.bytes.now) c.loop-b.b
          c.loop-b.rows.items c.new.result h.from (omega (arith, c.loop-b-test.true)) h.rows (c.new.ensures.value ∙ c.in_ok-levels.ensures);
      from = omega (arith, h.from);
    }
