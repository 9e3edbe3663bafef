use Rattle.std.proofs.Common.{◌≡◌, ◌+◌, ◌++◌, ◌∷◌, [], length, take, slice_index_or, rules, ◌∙◌}
use Rattle.std.proofs.lemmas.List.{take_more}
use Rattle.lb_lists.proofs.ReorderedRuns.{flat_step}
use Rattle.lb_lists.proofs.bounds.push_levels.Goals as goal

pub loop-row-preserved : goal.loop-row-preserved
loop-row-preserved g c = λ before flat.
    let row = slice_index_or c.args.rows.now c.loop-row.row-index c.row-item.result in
    let row_is : c.as_slice.result.now ≡ row = c.as_slice.ensures.value ∙ c.row-item.is in
    let more : take (c.loop-row.row-index + 1) c.args.rows.now ≡ take c.loop-row.row-index c.args.rows.now
    ++ row ∷ [] = take_more c.args.rows.now c.loop-row.row-index c.row-item.result c.loop-row-test.true in
    let counted : c.len.result ≡ length c.push_steps.new.places.items = search rules in
    flat_step before c.args.rows.now c.loop-row.row-index row c.as_slice.result.now _ _ _ _ _ _ c.len.result more row_is
    (c.loop-row.invariant before flat) c.in_ok-push_steps.ensures.places c.in_ok-push_steps.ensures.rises c.in_ok-push.ensures.items counted
