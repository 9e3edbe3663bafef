use Rattle.std.proofs.Common.{rules, refl}
use Rattle.pe_state.proofs.Histories.{still_holds, placed_holds}
use Rattle.pe_state.proofs.Runs.{same_run}
use Rattle.pe_state.proofs.pe.PeState.place.Goals as goal

pub returns-clause-ok : goal.returns-clause-ok
returns-clause-ok g c = search rules

pub invariant_of-end-2 : goal.invariant_of-end-2
invariant_of-end-2 g c = (c.end.invariant.0, λ k. absurd (cc))

pub invariant_of-self-2 : goal.invariant_of-self-2
invariant_of-self-2 g c =
    let i = same_run c.end.view_is c.self.invariant.1 in (
      c.self.invariant.0,
      record {
        histories = still_holds
            (placed_holds g.C.Chare.step g.C.Pup.fits g.C.Pup.pack g.H.Openings.opened _ c.args.index c.args.chare i.histories
            c.requires.opening) refl c.in_ok-place.ensures.ok refl refl;
        few = i.few;
        me = i.me;
        hand = i.hand;
        outbox = i.outbox;
        kept = tt;
      },
    )
