use Rattle.std.proofs.Common.{◌≡◌, ◌+◌, ◌++◌, ◌∷◌, [], length, take, slice_index_or, rules, ap, sym, ◌∙◌}
use Rattle.std.proofs.lemmas.List.{length-map, take_more}
use Rattle.lb_lists.specs.Steps.{all_steps, first_steps, places_of, rises_of}
use Rattle.lb_lists.proofs.FlatSteps.{places-more, rises-more, starts-more}
use Rattle.lb_lists.proofs.steps.flat_steps.Goals as goal

pub loop-row-preserved : goal.loop-row-preserved
loop-row-preserved g c =
    let h = c.loop-row.invariant in
    let rows = take c.loop-row.row-index c.args.rows.now in
    let row = slice_index_or c.args.rows.now c.loop-row.row-index c.row-item.result in
    let row_is : c.as_slice.result.now ≡ row = c.as_slice.ensures.value ∙ c.row-item.is in
    let more : take (c.loop-row.row-index + 1) c.args.rows.now ≡ rows ++ row ∷ [] = take_more c.args.rows.now c.loop-row.row-index c.row-item.result c.loop-row-test.true in
    let places : c.push_steps.new.places.items ≡ places_of
    (all_steps (take (c.loop-row.row-index + 1) c.args.rows.now)) = c.in_ok-push_steps.ensures.places
    ∙ ap (λ steps. c.loop-row.places.items ++ places_of steps) row_is ∙ places-more rows row c.loop-row.places.items h.places
    ∙ ap (λ all. places_of (all_steps all)) (sym more) in
    let counted : c.len.result ≡ length c.push_steps.new.places.items = search rules in
    record {
      starts = c.in_ok-push-2.ensures.items ∙ starts-more rows row c.loop-row.starts.items _ h.starts
          (counted ∙ ap length places ∙ length-map (all_steps (take (c.loop-row.row-index + 1) c.args.rows.now)) (λ step. step.0)
          ∙ ap (λ all. length (all_steps all)) more) ∙ ap (first_steps 0) (sym more);
      places = places;
      rises = c.in_ok-push_steps.ensures.rises ∙ ap (λ steps. c.loop-row.rises.items ++ rises_of steps) row_is
          ∙ rises-more rows row c.loop-row.rises.items h.rises ∙ ap (λ all. rises_of (all_steps all)) (sym more);
    }
