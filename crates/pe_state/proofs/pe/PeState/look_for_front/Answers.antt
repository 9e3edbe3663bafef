use Rattle.std.proofs.Common.{None, refl}
use Rattle.pe_state.proofs.Below.{rest_below}
use Rattle.pe_state.proofs.Fronts.{front_again}
use Rattle.pe_state.proofs.Histories.{still_holds, looked_in_holds}
use Rattle.pe_state.proofs.Keeping.{outbox_below}
use Rattle.pe_state.proofs.Runs.{same_run}
use Rattle.pe_state.proofs.pe.PeState.look_for_front.Goals as goal

pub invariant_of-self-2 : goal.invariant_of-self-2
invariant_of-self-2 g c =
    let i = same_run c.end.view_is c.self.invariant.1 in
    let front = front_again c.args.address _ _ _ _ c.in-Some.ensures.items c.push_front_reserved.ensures.items in (
      c.self.invariant.0,
      record {
        histories = still_holds
            (looked_in_holds g.C.Chare.step g.C.Pup.fits g.C.Pup.pack g.H.Openings.opened _ c.args.address None i.histories) refl refl refl
            front;
        few = i.few;
        me = i.me;
        hand = i.hand;
        outbox = outbox_below _ _ _ c.push_front_reserved.ensures.items
            (c.requires.known, rest_below _ _ _ _ c.in-Some.ensures.items i.outbox);
        kept = tt;
      },
    )
