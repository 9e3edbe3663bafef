use Rattle.std.proofs.Common.{refl, sym, ap, subst, ◌∙◌}
use Rattle.chares.specs.Posting.{traced}
use Rattle.chares.specs.declared.entry.Entry.TheVariants.{Resumption}
use Rattle.pe_state.specs.Pes.{PeView, resume_entries}
use Rattle.pe_state.specs.Refusals.{RefusesResume}
use Rattle.pe_state.proofs.Acting.{untraced, whatever}
use Rattle.pe_state.proofs.Below.{posted_below}
use Rattle.pe_state.proofs.Handling.{handled_is}
use Rattle.pe_state.proofs.Histories.{still_holds, handler_holds, member_of, may_go_on, MayHandleAt}
use Rattle.pe_state.proofs.Keeping.{same_view, outbox_below, no_answer, out_of_memory, refused_so}
use Rattle.pe_state.proofs.Runs.{same_run}
use Rattle.pe_state.proofs.pe.PeState.resume_with.Goals as goal

-- no memory for a note

pub invariant_of-end : goal.invariant_of-end
invariant_of-end g c = (c.end.invariant.0, c.end.invariant.1)

pub invariant_of-self : goal.invariant_of-self
invariant_of-self g c =
    let i = same_run c.end.view_is c.self.invariant.1 in
    (c.self.invariant.0, record { histories = still_holds i.histories refl refl refl refl; few = i.few; me = i.me; hand = i.hand; outbox = i.outbox; kept = i.kept })

pub returns-in_err-reserve-clause-ok : goal.returns-in_err-reserve-clause-ok
returns-in_err-reserve-clause-ok g c = no_answer _ _ c.from_residual.ensures.0

pub returns-in_err-reserve-clause-err : goal.returns-in_err-reserve-clause-err
returns-in_err-reserve-clause-err g c = whatever _ _ (same_view _ _ _ _ _ _ refl refl c.reserve.ensures.items refl (c.end.view_is ∙ c.self.view_is))

pub returns-in_err-reserve-clause-refused : goal.returns-in_err-reserve-clause-refused
returns-in_err-reserve-clause-refused g c = out_of_memory (RefusesResume g.C.Chare.refuses c.args.self.now c.args.index c.args.round) _ c.from_residual.ensures.1

pub returns-in_err-reserve-clause-traces : goal.returns-in_err-reserve-clause-traces
returns-in_err-reserve-clause-traces g c = untraced _ _ _ _ _ c.from_residual.ensures.0 refl

-- none for what is posted

pub invariant_of-self-in_err-reserve-2 : goal.invariant_of-self-in_err-reserve-2
invariant_of-self-in_err-reserve-2 g c =
    let i = same_run c.end.view_is c.self.invariant.1 in (
      c.self.invariant.0,
      record {
        histories = still_holds i.histories refl refl refl c.reserve-2.ensures.items;
        few = i.few;
        me = i.me;
        hand = i.hand;
        outbox = outbox_below _ _ _ c.reserve-2.ensures.items i.outbox;
        kept = i.kept;
      },
    )

pub returns-in_err-reserve-2-clause-ok : goal.returns-in_err-reserve-2-clause-ok
returns-in_err-reserve-2-clause-ok g c = no_answer _ _ c.from_residual-in_err-reserve-2.ensures.0

pub returns-in_err-reserve-2-clause-err : goal.returns-in_err-reserve-2-clause-err
returns-in_err-reserve-2-clause-err g c = whatever _ _ (same_view _ _ _ _ _ _ refl c.reserve-2.ensures.items c.reserve.ensures.items refl (c.end.view_is ∙ c.self.view_is))

pub returns-in_err-reserve-2-clause-refused : goal.returns-in_err-reserve-2-clause-refused
returns-in_err-reserve-2-clause-refused g c = out_of_memory (RefusesResume g.C.Chare.refuses c.args.self.now c.args.index c.args.round) _ c.from_residual-in_err-reserve-2.ensures.1

pub returns-in_err-reserve-2-clause-traces : goal.returns-in_err-reserve-2-clause-traces
returns-in_err-reserve-2-clause-traces g c = untraced _ _ _ _ _ c.from_residual-in_err-reserve-2.ensures.0 refl

pub resume-requires-clause-member : goal.resume-requires-clause-member
resume-requires-clause-member g c = member_of c.args.index (same_run c.end.view_is c.self.invariant.1).histories

-- the handler is refused

pub invariant_of-self-in_err-note : goal.invariant_of-self-in_err-note
invariant_of-self-in_err-note g c =
    let i = same_run c.end.view_is c.self.invariant.1 in
    let a = c.in_err-note.ensures in (
      c.self.invariant.0,
      record {
        histories = still_holds i.histories refl a.same_room refl (a.same_outbox ∙ c.reserve-2.ensures.items);
        few = i.few;
        me = i.me;
        hand = i.hand;
        outbox = outbox_below _ _ _ (a.same_outbox ∙ c.reserve-2.ensures.items) i.outbox;
        kept = i.kept;
      },
    )

pub returns-in_err-note-clause-ok : goal.returns-in_err-note-clause-ok
returns-in_err-note-clause-ok g c = no_answer _ _ c.from_residual-in_err-note.ensures.0

pub returns-in_err-note-clause-err : goal.returns-in_err-note-clause-err
returns-in_err-note-clause-err g c =
    let a = c.in_err-note.ensures in
    whatever _ _ (same_view _ _ _ _ _ _ a.same_room (a.same_outbox ∙ c.reserve-2.ensures.items) c.reserve.ensures.items a.same_count (c.end.view_is ∙ c.self.view_is))

pub returns-in_err-note-clause-refused : goal.returns-in_err-note-clause-refused
returns-in_err-note-clause-refused g c =
    refused_so (RefusesResume g.C.Chare.refuses c.args.self.now c.args.index c.args.round) _ _ c.from_residual-in_err-note.ensures.1
    (λ k. subst (λ (v : PeView g.row.C.Denot). RefusesResume g.C.Chare.refuses v c.args.index c.args.round c.in_err-note.field-0.0)
    (c.end.view_is ∙ c.self.view_is) (c.in_err-note.ensures.refused k))

pub returns-in_err-note-clause-traces : goal.returns-in_err-note-clause-traces
returns-in_err-note-clause-traces g c = untraced _ _ _ _ _ c.from_residual-in_err-note.ensures.0 c.in_err-note.ensures.traces.err

-- the handler answers

pub invariant_of-end-2 : goal.invariant_of-end-2
invariant_of-end-2 g c =
    let a = c.in_ok-note.ensures in
    (a.numbered, λ k. a.place)

pub invariant_of-self-2 : goal.invariant_of-self-2
invariant_of-self-2 g c =
    let i = same_run c.end.view_is c.self.invariant.1 in
    let a = c.in_ok-note.ensures in
    let may = subst (λ (v : PeView g.row.C.Denot). MayHandleAt v c.args.index (Resumption c.args.round))
    (sym (c.end.view_is ∙ c.self.view_is)) (may_go_on c.args.self.now c.args.index c.args.round c.requires.due) in
    let after = handler_holds g.C.Chare.step g.C.Pup.fits g.C.Pup.pack g.H.Openings.opened c.args.index (Resumption c.args.round) _ _
    i.histories may i.histories.hand refl a.room refl c.reserve-2.ensures.items a.outbox in (
      c.self.invariant.0,
      record {
        histories = after;
        few = i.few;
        me = i.me;
        hand = i.hand;
        outbox = outbox_below _ _ _ a.outbox (posted_below _ c.end.inside.me c.end.inside.count c.reserve-2.new.self.items _
            (outbox_below _ _ _ c.reserve-2.ensures.items i.outbox));
        kept = tt;
      },
    )

pub returns-clause-ok : goal.returns-clause-ok
returns-clause-ok g c =
    let a = c.in_ok-note.ensures in
    handled_is g.C.Chare.step g.C.Pup.pack _ _ c.args.index (Resumption c.args.round) c.args.self.now.hand _ _ _ _ _ _ _
    (c.end.view_is ∙ c.self.view_is) (ap (λ p. p.hand) (c.end.view_is ∙ c.self.view_is)) a.room c.reserve-2.ensures.items a.outbox
    c.reserve.ensures.items a.note c.owe.ensures.owed a.count

pub returns-clause-traces : goal.returns-clause-traces
returns-clause-traces g c =
    let new =
    c.in_ok-note.ensures.traces.ok
    ∙ ap (λ (v : PeView g.row.C.Denot). traced c.args.tracing c.args.trace.now.items
    (resume_entries g.C.Chare.step g.C.Pup.pack v c.args.index c.args.round)) (c.end.view_is ∙ c.self.view_is)
    in
    record { ok = new; err = tt }
