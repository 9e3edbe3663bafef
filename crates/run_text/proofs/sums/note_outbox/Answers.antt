use Rattle.std.proofs.Common.{◌∙◌}
use Rattle.round_marks.proofs.Walks.{all_of_both}
use Rattle.run_text.specs.Sums.{IsTallyParcel, sums_in}
use Rattle.run_account.proofs.Noting.{noted_both}
use Rattle.run_text.proofs.sums.note_outbox.Goals as goal

pub note_items-requires-2 : goal.note_items-requires-2
note_items-requires-2 g c =
    let parts = c.as_slices.result in
    let both = all_of_both (λ x. IsTallyParcel x.parcel) parts.0.now parts.1.now c.args.end.now.outbox (c.as_slices.ensures.items ∙ c.outbox.ensures.value) in
    (both.0 c.requires.outbox).1

pub returns : goal.returns
returns g c =
    let parts = c.as_slices.result in
    let whole = c.as_slices.ensures.items ∙ c.outbox.ensures.value in
    noted_both (λ x. sums_in x.parcel) parts.0.now parts.1.now c.args.end.now.outbox c.args.sums.now _ _ whole c.note_items.ensures c.note_items-2.ensures
