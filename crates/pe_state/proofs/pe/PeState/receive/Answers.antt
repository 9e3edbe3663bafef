use Rattle.std.proofs.Common.{rules, sym, subst}
use Rattle.pe_state.specs.Histories.{IsParcelHistory}
use Rattle.pe_state.specs.Pes.{Parcel}
use Rattle.pe_state.proofs.Histories.{received_holds}
use Rattle.pe_state.proofs.Runs.{same_run}
use Rattle.pe_state.proofs.pe.PeState.receive.Goals as goal

pub returns : goal.returns
returns g c = search rules

pub invariant_of-end : goal.invariant_of-end
invariant_of-end g c = (c.end.invariant.0, λ k. absurd (cc))

pub invariant_of-self : goal.invariant_of-self
invariant_of-self g c =
    let i = same_run c.end.view_is c.self.invariant.1 in
    let history = subst (λ (p : Parcel). IsParcelHistory g.C.Chare.step g.C.Pup.fits g.C.Pup.pack g.H.Openings.opened p)
    (sym c.into_held.ensures.value) c.into_held.ensures.history in (
      c.self.invariant.0,
      record {
        histories = received_holds g.C.Chare.step g.C.Pup.fits g.C.Pup.pack g.H.Openings.opened _
            c.into_held.result i.histories history;
        few = i.few;
        me = i.me;
        hand = tt;
        outbox = i.outbox;
        kept = tt;
      },
    )
