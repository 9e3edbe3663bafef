use Rattle.std.proofs.Common.{◌∙◌}
use Rattle.std.proofs.lemmas.Bool.{both_ways}
use Rattle.round_marks.specs.Finished.{HasFinishedParcel}
use Rattle.round_marks.proofs.Walks.{all_of_both}
use Rattle.round_marks.proofs.finished.outbox_finished.Goals as goal

pub returns-then-items_finished : goal.returns-then-items_finished
returns-then-items_finished g c =
    let both = all_of_both (λ x. HasFinishedParcel x.parcel) c.as_slices.result.0.now c.as_slices.result.1.now c.args.pe.now.outbox
    (c.as_slices.ensures.items ∙ c.outbox.ensures.value) in (
      λ t. both.1 (c.items_finished.ensures.0 c.if-items_finished.true, c.items_finished-then-items_finished.ensures.0 t),
      λ h. c.items_finished-then-items_finished.ensures.1 (both.0 h).1,
    )

pub returns-else-items_finished : goal.returns-else-items_finished
returns-else-items_finished g c =
    let both = all_of_both (λ x. HasFinishedParcel x.parcel) c.as_slices.result.0.now c.as_slices.result.1.now c.args.pe.now.outbox
    (c.as_slices.ensures.items ∙ c.outbox.ensures.value) in (
      λ t. absurd (both_ways _ c.if-items_finished.false t),
      λ h. c.items_finished.ensures.1 (both.0 h).0,
    )
