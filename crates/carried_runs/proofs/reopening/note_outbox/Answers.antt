use Rattle.std.proofs.Common.{◌∙◌, ap}
use Rattle.pe_state.specs.Pes.{PeView}
use Rattle.run_account.proofs.Noting.{noted_both}
use Rattle.carried_runs.specs.Places.{sighted_in}
use Rattle.carried_runs.proofs.reopening.note_outbox.Goals as goal

pub returns-clause-noted : goal.returns-clause-noted
returns-clause-noted g c =
    let parts = c.as_slices.result in
    let whole = c.as_slices.ensures.items ∙ (c.outbox.ensures.value ∙ ap (λ (e : PeView g.row.C.Denot). e.outbox) c.as_end.ensures.value) in
    noted_both (sighted_in g.H.Openings.pes c.args.state.now.me) parts.0.now parts.1.now c.args.state.now.outbox c.args.places.now _ _ whole c.note_items.ensures.noted c.note_items-2.ensures.noted
