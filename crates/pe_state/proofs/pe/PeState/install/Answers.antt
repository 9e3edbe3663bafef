use Rattle.std.proofs.Common.{refl, sym, ◌∙◌, ap}
use Rattle.chares.specs.declared.carried.Carried.TheVariants as Carried
use Rattle.pe_state.specs.Pes.{PeView, held}
use Rattle.pe_state.specs.Rooms.{found}
use Rattle.pe_state.proofs.Below.{unshelved}
use Rattle.pe_state.proofs.Histories.{holds_same, still_holds, installed_holds}
use Rattle.pe_state.proofs.Installing.{installed_is}
use Rattle.pe_state.proofs.Keeping.{same_view, held_same, outbox_below, place_stays}
use Rattle.pe_state.proofs.Runs.{same_run}
use Rattle.pe_state.proofs.pe.PeState.install.Goals as goal

-- no memory for a report, for the outbox, or for the shelf

pub returns-in_default-clause-err : goal.returns-in_default-clause-err
returns-in_default-clause-err g c = held_same _ _ _ _ _ c.hold.ensures.ok c.self.view_is

pub invariant_of-end : goal.invariant_of-end
invariant_of-end g c = (c.end.invariant.0, λ k. place_stays _ _ _ _ c.reserve.ensures.len c.reserve.ensures.capacity (c.end.invariant.1 k))

pub invariant_of-self-in_default-reserve : goal.invariant_of-self-in_default-reserve
invariant_of-self-in_default-reserve g c =
    let i = same_run c.end.view_is c.self.invariant.1 in (
      c.self.invariant.0,
      record {
        histories = still_holds i.histories refl refl refl c.reserve.ensures.items;
        few = i.few;
        me = i.me;
        hand = i.hand;
        outbox = outbox_below _ _ _ c.reserve.ensures.items i.outbox;
        kept = i.kept;
      },
    )

pub returns-in_default-reserve-clause-err : goal.returns-in_default-reserve-clause-err
returns-in_default-reserve-clause-err g c = held_same _ _ _ _ _ c.hold-in_default-reserve.ensures.ok
    (same_view _ _ _ _ _ _ refl c.reserve.ensures.items refl refl (c.end.view_is ∙ c.self.view_is))

pub invariant_of-end-in_default-with_capacity : goal.invariant_of-end-in_default-with_capacity
invariant_of-end-in_default-with_capacity g c = (c.end.invariant.0, λ k. place_stays _ _ _ _ c.reserve.ensures.len c.reserve.ensures.capacity (c.end.invariant.1 k))

pub invariant_of-self-in_default-with_capacity : goal.invariant_of-self-in_default-with_capacity
invariant_of-self-in_default-with_capacity g c =
    let i = same_run c.end.view_is c.self.invariant.1 in (
      c.self.invariant.0,
      record {
        histories = still_holds i.histories refl refl refl c.reserve.ensures.items;
        few = i.few;
        me = i.me;
        hand = i.hand;
        outbox = outbox_below _ _ _ c.reserve.ensures.items i.outbox;
        kept = i.kept;
      },
    )

pub returns-in_default-with_capacity-clause-err : goal.returns-in_default-with_capacity-clause-err
returns-in_default-with_capacity-clause-err g c = held_same _ _ _ _ _ c.hold-in_default-with_capacity.ensures.ok
    (same_view _ _ _ _ _ _ refl c.reserve.ensures.items refl refl (c.end.view_is ∙ c.self.view_is))

-- none for the room

pub install-requires : goal.install-requires
install-requires g c = record { lacks = ap (λ (v : PeView g.row.C.Denot). found c.args.element.index v.room) (c.end.view_is ∙ c.self.view_is) ∙ c.requires.lacks }

pub invariant_of-end-in-Err-install : goal.invariant_of-end-in-Err-install
invariant_of-end-in-Err-install g c = (c.end.invariant.0, λ k. place_stays _ _ _ _ c.reserve.ensures.len c.reserve.ensures.capacity (c.end.invariant.1 k))

pub invariant_of-self-in-Err-install : goal.invariant_of-self-in-Err-install
invariant_of-self-in-Err-install g c =
    let i = same_run c.end.view_is c.self.invariant.1 in (
      c.self.invariant.0,
      record {
        histories = still_holds i.histories refl c.in-Err.ensures.err refl c.reserve.ensures.items;
        few = i.few;
        me = i.me;
        hand = i.hand;
        outbox = outbox_below _ _ _ c.reserve.ensures.items i.outbox;
        kept = i.kept;
      },
    )

pub returns-in-Err-clause-err : goal.returns-in-Err-clause-err
returns-in-Err-clause-err g c =
    held_same _ _ _ _ _ c.hold-in-Err.ensures.ok (same_view _ _ _ _ _ _ c.in-Err.ensures.err c.reserve.ensures.items refl refl (c.end.view_is ∙ c.self.view_is))
    ∙ ap (λ p. held c.args.self.now (Carried.Element p) c.args.address) c.in-Err.ensures.back

-- the element stands here

pub invariant_of-end-2 : goal.invariant_of-end-2
invariant_of-end-2 g c = (c.end.invariant.0, λ k. absurd (cc))

pub invariant_of-self-2 : goal.invariant_of-self-2
invariant_of-self-2 g c =
    let i = same_run c.end.view_is c.self.invariant.1 in
    let after =
    installed_is _ _ c.args.element c.args.chare _ _ _ _ _ _
    (c.end.view_is ∙ c.self.view_is) (ap (λ p. p.hand) (c.end.view_is ∙ c.self.view_is) ∙ c.requires.empty) c.index-index.ensures.value
    c.in_default-install.ensures.ok c.in-Ok-with_capacity.ensures.items c.unshelve.ensures.rest c.reserve.ensures.items c.unshelve.ensures.outbox
    in
    let stands = installed_holds g.C.Chare.step g.C.Pup.fits g.C.Pup.pack g.H.Openings.opened c.args.self.now c.args.element c.args.chare
    (holds_same (sym (c.end.view_is ∙ c.self.view_is)) i.histories) c.requires.history in (
      c.self.invariant.0,
      record {
        histories = holds_same after stands;
        few = i.few;
        me = i.me;
        hand = i.hand;
        outbox = outbox_below _ _ _ c.unshelve.ensures.outbox (unshelved _ _ _ _ (outbox_below _ _ _ c.reserve.ensures.items i.outbox) i.me);
        kept = tt;
      },
    )

pub returns-clause-ok : goal.returns-clause-ok
returns-clause-ok g c =
    installed_is _ _ c.args.element c.args.chare _ _ _ _ _ _
    (c.end.view_is ∙ c.self.view_is) (ap (λ p. p.hand) (c.end.view_is ∙ c.self.view_is) ∙ c.requires.empty) c.index-index.ensures.value
    c.in_default-install.ensures.ok c.in-Ok-with_capacity.ensures.items c.unshelve.ensures.rest c.reserve.ensures.items c.unshelve.ensures.outbox
