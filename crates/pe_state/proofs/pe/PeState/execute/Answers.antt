use Rattle.std.proofs.Common.{◌∷◌, None, refl, sym, ◌∙◌, ap, subst}
use Rattle.chares.specs.Posting.{traced}
use Rattle.chares.specs.declared.carried.Carried.TheVariants as Carried
use Rattle.chares.specs.declared.entry.Entry.TheVariants.{Letter}
use Rattle.chares.specs.declared.trace_entry.TraceEntry.TheVariants as Trace
use Rattle.pe_state.specs.Pes.{PeView, held, handler_posts}
use Rattle.pe_state.specs.Refusals.{RefusesParcel}
use Rattle.pe_state.proofs.Below.{posted_below}
use Rattle.pe_state.proofs.Handling.{handled_is}
use Rattle.pe_state.proofs.Histories.{still_holds, handler_holds, member_of, may_execute, MayHandleAt}
use Rattle.pe_state.proofs.Keeping.{same_view, held_same, outbox_below, place_stays}
use Rattle.pe_state.proofs.Reasons.{same_reason}
use Rattle.pe_state.proofs.Runs.{same_run}
use Rattle.pe_state.proofs.pe.PeState.execute.Goals as goal

-- no memory for a note

pub invariant_of-end : goal.invariant_of-end
invariant_of-end g c = (c.end.invariant.0, c.end.invariant.1)

pub invariant_of-self : goal.invariant_of-self
invariant_of-self g c =
    let i = same_run c.end.view_is c.self.invariant.1 in
    (c.self.invariant.0, record { histories = still_holds i.histories refl refl refl refl; few = i.few; me = i.me; hand = i.hand; outbox = i.outbox; kept = i.kept })

pub returns-in_default-clause-err : goal.returns-in_default-clause-err
returns-in_default-clause-err g c = held_same _ _ _ _ _ c.hold.ensures.ok (same_view _ _ _ _ _ _ refl refl c.reserve.ensures.items refl (c.end.view_is ∙ c.self.view_is))

-- none for what comes back

pub invariant_of-end-in_default-reserve : goal.invariant_of-end-in_default-reserve
invariant_of-end-in_default-reserve g c = (c.end.invariant.0, λ k. place_stays _ _ _ _ c.reserve-2.ensures.len c.reserve-2.ensures.capacity (c.end.invariant.1 k))

pub invariant_of-self-in_default-reserve : goal.invariant_of-self-in_default-reserve
invariant_of-self-in_default-reserve g c =
    let i = same_run c.end.view_is c.self.invariant.1 in (
      c.self.invariant.0,
      record {
        histories = still_holds i.histories refl refl refl c.reserve-2.ensures.items;
        few = i.few;
        me = i.me;
        hand = i.hand;
        outbox = outbox_below _ _ _ c.reserve-2.ensures.items i.outbox;
        kept = i.kept;
      },
    )

pub returns-in_default-reserve-clause-err : goal.returns-in_default-reserve-clause-err
returns-in_default-reserve-clause-err g c = held_same _ _ _ _ _ c.hold-in_default-reserve.ensures.ok
    (same_view _ _ _ _ _ _ refl c.reserve-2.ensures.items c.reserve.ensures.items refl (c.end.view_is ∙ c.self.view_is))

pub execute-handled-requires-clause-member : goal.execute-handled-requires-clause-member
execute-handled-requires-clause-member g c = member_of c.args.letter.to (same_run c.end.view_is c.self.invariant.1).histories

-- the handler is refused

pub invariant_of-end-in-Err-handled : goal.invariant_of-end-in-Err-handled
invariant_of-end-in-Err-handled g c =
    let a = c.in-Err.ensures in
    (a.numbered, λ k. a.place)

pub invariant_of-self-in-Err : goal.invariant_of-self-in-Err
invariant_of-self-in-Err g c =
    let i = same_run c.end.view_is c.self.invariant.1 in
    let a = c.in-Err.ensures in (
      c.self.invariant.0,
      record {
        histories = still_holds i.histories refl a.same_room refl (a.same_outbox ∙ c.reserve-2.ensures.items);
        few = i.few;
        me = i.me;
        hand = i.hand;
        outbox = outbox_below _ _ _ (a.same_outbox ∙ c.reserve-2.ensures.items) i.outbox;
        kept = i.kept;
      },
    )

pub returns-in-Err-clause-err : goal.returns-in-Err-clause-err
returns-in-Err-clause-err g c =
    let a = c.in-Err.ensures in
    held_same _ _ _ _ _ c.hold-in-Err.ensures.ok (same_view _ _ _ _ _ _ a.same_room (a.same_outbox ∙ c.reserve-2.ensures.items)
    c.reserve.ensures.items a.same_count (c.end.view_is ∙ c.self.view_is))
    ∙ ap (λ l. held c.args.self.now (Carried.Letter l) c.args.address) a.letter

pub returns-in-Err-clause-refused : goal.returns-in-Err-clause-refused
returns-in-Err-clause-refused g c =
    same_reason (RefusesParcel g.C.Chare.refuses c.args.self.now (Carried.Letter c.args.letter)) c.in-Err.unread.error c.from.result c.from.ensures
    (λ k. subst (λ (v : PeView g.row.C.Denot). RefusesParcel g.C.Chare.refuses v (Carried.Letter c.args.letter) c.in-Err.unread.error)
    (c.end.view_is ∙ c.self.view_is) (c.in-Err.ensures.refused k))

pub returns-in-Err-clause-traces : goal.returns-in-Err-clause-traces
returns-in-Err-clause-traces g c = record { ok = tt; err = c.in-Err.ensures.traces.err }

-- the handler answers

pub invariant_of-end-2 : goal.invariant_of-end-2
invariant_of-end-2 g c =
    let a = c.in-Ok-handled.ensures in
    (a.numbered, λ k. a.place)

pub invariant_of-self-2 : goal.invariant_of-self-2
invariant_of-self-2 g c =
    let i = same_run c.end.view_is c.self.invariant.1 in
    let a = c.in-Ok-handled.ensures in
    let may = subst (λ (v : PeView g.row.C.Denot). MayHandleAt v c.args.letter.to (Letter c.args.letter))
    (sym (c.end.view_is ∙ c.self.view_is)) (may_execute c.args.self.now c.args.letter c.requires.started) in
    let after = handler_holds g.C.Chare.step g.C.Pup.fits g.C.Pup.pack g.H.Openings.opened c.args.letter.to (Letter c.args.letter) None _
    i.histories may tt refl a.room (ap (λ p. p.hand) (c.end.view_is ∙ c.self.view_is) ∙ c.requires.empty) c.reserve-2.ensures.items a.outbox in (
      c.self.invariant.0,
      record {
        histories = after;
        few = i.few;
        me = i.me;
        hand = i.hand;
        outbox = outbox_below _ _ _ a.outbox (posted_below _ c.end.inside.me c.end.inside.count c.reserve-2.new.self.items _
            (outbox_below _ _ _ c.reserve-2.ensures.items i.outbox));
        kept = tt;
      },
    )

pub returns-clause-ok : goal.returns-clause-ok
returns-clause-ok g c =
    let a = c.in-Ok-handled.ensures in
    handled_is g.C.Chare.step g.C.Pup.pack _ _ c.args.letter.to (Letter c.args.letter) None _ _ _ _ _ _ _
    (c.end.view_is ∙ c.self.view_is) (ap (λ p. p.hand) (c.end.view_is ∙ c.self.view_is) ∙ c.requires.empty) a.room c.reserve-2.ensures.items
    a.outbox c.reserve.ensures.items a.note c.owe.ensures.owed a.count

pub returns-clause-traces : goal.returns-clause-traces
returns-clause-traces g c =
    let new =
    c.in-Ok-handled.ensures.traces.ok
    ∙ ap (λ (v : PeView g.row.C.Denot). traced c.args.tracing c.args.trace.now.items
    (Trace.Executed c.args.letter.id c.args.letter.to ∷ handler_posts g.C.Chare.step g.C.Pup.pack v c.args.letter.to
    (Letter c.args.letter))) (c.end.view_is ∙ c.self.view_is)
    in
    record { ok = new; err = tt }
