use Rattle.std.proofs.Common.{◌∙◌, refl, sym, subst, IfSome}
use Rattle.pe_state.specs.Pes.{PeView}
use Rattle.pe_state.specs.Rooms.{found}
use Rattle.pe_state.proofs.Acting.{whatever}
use Rattle.pe_state.proofs.Below.{last_below}
use Rattle.pe_state.proofs.Histories.{holds_same, still_holds, departed_holds}
use Rattle.pe_state.proofs.Keeping.{same_view, outbox_below, place_stays, no_answer, only_memory}
use Rattle.pe_state.proofs.Leaving.{departed_is, stands_to_leave}
use Rattle.pe_state.proofs.Runs.{same_run}
use Rattle.pe_state.proofs.pe.PeState.depart.Goals as goal

-- no memory for the outbox

pub invariant_of-end : goal.invariant_of-end
invariant_of-end g c = (c.end.invariant.0, λ k. place_stays _ _ _ _ c.reserve.ensures.len c.reserve.ensures.capacity (c.end.invariant.1 k))

pub invariant_of-self : goal.invariant_of-self
invariant_of-self g c =
    let i = same_run c.end.view_is c.self.invariant.1 in (
      c.self.invariant.0,
      record {
        histories = still_holds i.histories refl refl refl c.reserve.ensures.items;
        few = i.few;
        me = i.me;
        hand = i.hand;
        outbox = outbox_below _ _ _ c.reserve.ensures.items i.outbox;
        kept = i.kept;
      },
    )

pub returns-in_err-reserve-clause-ok : goal.returns-in_err-reserve-clause-ok
returns-in_err-reserve-clause-ok g c = no_answer _ _ c.from_residual.ensures.0

pub returns-in_err-reserve-clause-err : goal.returns-in_err-reserve-clause-err
returns-in_err-reserve-clause-err g c = whatever _ _ (same_view _ _ _ _ _ _ refl c.reserve.ensures.items refl refl (c.end.view_is ∙ c.self.view_is))

pub returns-in_err-reserve-clause-only_memory : goal.returns-in_err-reserve-clause-only_memory
returns-in_err-reserve-clause-only_memory g c = only_memory c.from_residual.result c.from_residual.ensures.1

pub returns-in_err-reserve-clause-fits : goal.returns-in_err-reserve-clause-fits
returns-in_err-reserve-clause-fits g c = no_answer _ _ c.from_residual.ensures.0

-- none for the pack

pub depart-requires : goal.depart-requires
depart-requires g c = record { stands = stands_to_leave c.args.self.now _ c.args.index (c.end.view_is ∙ c.self.view_is) c.requires.waits }

pub invariant_of-self-in_err-element : goal.invariant_of-self-in_err-element
invariant_of-self-in_err-element g c =
    let i = same_run c.end.view_is c.self.invariant.1 in (
      c.self.invariant.0,
      record {
        histories = still_holds i.histories refl c.in_err-element.ensures.err refl c.reserve.ensures.items;
        few = i.few;
        me = i.me;
        hand = i.hand;
        outbox = outbox_below _ _ _ c.reserve.ensures.items i.outbox;
        kept = i.kept;
      },
    )

pub returns-in_err-element-clause-ok : goal.returns-in_err-element-clause-ok
returns-in_err-element-clause-ok g c = no_answer _ _ c.from_residual-in_err-element.ensures.0

pub returns-in_err-element-clause-err : goal.returns-in_err-element-clause-err
returns-in_err-element-clause-err g c = whatever _ _ (same_view _ _ _ _ _ _ c.in_err-element.ensures.err c.reserve.ensures.items refl refl (c.end.view_is ∙ c.self.view_is))

pub returns-in_err-element-clause-only_memory : goal.returns-in_err-element-clause-only_memory
returns-in_err-element-clause-only_memory g c = only_memory c.from_residual-in_err-element.result c.from_residual-in_err-element.ensures.1

pub returns-in_err-element-clause-fits : goal.returns-in_err-element-clause-fits
returns-in_err-element-clause-fits g c = no_answer _ _ c.from_residual-in_err-element.ensures.0

-- the element leaves

pub invariant_of-end-2 : goal.invariant_of-end-2
invariant_of-end-2 g c = (c.end.invariant.0, λ k. absurd (cc))

pub invariant_of-self-2 : goal.invariant_of-self-2
invariant_of-self-2 g c =
    let i = same_run c.end.view_is c.self.invariant.1 in
    let there = outbox_below _ _ _ c.reserve.ensures.items i.outbox in
    let after = departed_is g.C.Pup.pack c.args.self.now _ c.args.index c.args.to c.in_ok-element.element _ _ _
    (c.end.view_is ∙ c.self.view_is) c.in_ok-element.ensures.ok c.reserve.ensures.items c.in_ok-element.ensures.value c.push_back_reserved.ensures.items in
    let fits = subst (λ (v : PeView g.row.C.Denot). IfSome (found c.args.index v.room) (λ el. g.C.Pup.fits el.chare))
    (c.end.view_is ∙ c.self.view_is) c.in_ok-element.ensures.fits in
    let left = departed_holds g.C.Chare.step g.C.Pup.fits g.C.Pup.pack g.H.Openings.opened c.args.self.now c.args.index c.args.to
    (holds_same (sym (c.end.view_is ∙ c.self.view_is)) i.histories) fits in (
      c.self.invariant.0,
      record {
        histories = holds_same after left;
        few = i.few;
        me = i.me;
        hand = i.hand;
        outbox = outbox_below _ _ _ c.push_back_reserved.ensures.items (last_below _ _ _ there c.requires.known);
        kept = tt;
      },
    )

pub returns-clause-ok : goal.returns-clause-ok
returns-clause-ok g c = departed_is g.C.Pup.pack c.args.self.now _ c.args.index c.args.to c.in_ok-element.element _ _ _
    (c.end.view_is ∙ c.self.view_is) c.in_ok-element.ensures.ok c.reserve.ensures.items c.in_ok-element.ensures.value c.push_back_reserved.ensures.items

pub returns-clause-fits : goal.returns-clause-fits
returns-clause-fits g c = subst (λ (v : PeView g.row.C.Denot). IfSome (found c.args.index v.room) (λ el. g.C.Pup.fits el.chare))
    (c.end.view_is ∙ c.self.view_is) c.in_ok-element.ensures.fits
