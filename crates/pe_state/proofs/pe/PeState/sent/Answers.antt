use Rattle.std.proofs.Common.{rules, Some, drop, refl, ap, sym, arith, ◌∙◌}
use Rattle.pe_state.specs.Pes.{PeView, front_parcel}
use Rattle.pe_state.proofs.Below.{first_below, rest_below}
use Rattle.pe_state.proofs.Histories.{still_holds, gave_up_holds, first_holds}
use Rattle.pe_state.proofs.Runs.{same_run}
use Rattle.pe_state.proofs.pe.PeState.sent.Goals as goal

pub returns-clause-ok : goal.returns-clause-ok
returns-clause-ok g c = search rules

pub invariant_of-end-2 : goal.invariant_of-end-2
invariant_of-end-2 g c = (c.end.invariant.0, λ k. omega (arith, c.in-Some.ensures.len, c.in-Some.ensures.capacity))

pub invariant_of-self-2 : goal.invariant_of-self-2
invariant_of-self-2 g c =
    let i = same_run c.end.view_is c.self.invariant.1 in (
      c.self.invariant.0,
      record {
        histories = still_holds
            (gave_up_holds g.C.Chare.step g.C.Pup.fits g.C.Pup.pack g.H.Openings.opened _ i.histories) refl refl refl
            (sym (ap (drop 1) c.in-Some.ensures.items));
        few = i.few;
        me = i.me;
        hand = i.hand;
        outbox = rest_below _ _ _ _ c.in-Some.ensures.items i.outbox;
        kept = first_below _ _ _ _ c.in-Some.ensures.items i.outbox;
      },
    )

pub returns-clause-value : goal.returns-clause-value
returns-clause-value g c = ap (λ (p : PeView g.row.C.Denot). front_parcel p.outbox) (sym (c.end.view_is ∙ c.self.view_is))
    ∙ ap front_parcel c.in-Some.ensures.items ∙ ap Some (sym c.into_parcel.ensures.value)

pub into_parcel-requires : goal.into_parcel-requires
into_parcel-requires g c = record {
  history = first_holds g.C.Chare.step g.C.Pup.fits g.C.Pup.pack g.H.Openings.opened _ _ _
      c.in-Some.ensures.items (same_run c.end.view_is c.self.invariant.1).histories.outbox;
}
