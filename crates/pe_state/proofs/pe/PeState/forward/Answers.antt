use Rattle.std.proofs.Common.{Some, refl}
use Rattle.pe_state.proofs.Below.{last_below}
use Rattle.pe_state.proofs.Histories.{posted_holds}
use Rattle.pe_state.proofs.Keeping.{outbox_below}
use Rattle.pe_state.proofs.Runs.{same_run}
use Rattle.pe_state.proofs.pe.PeState.forward.Goals as goal

pub invariant_of-end-2 : goal.invariant_of-end-2
invariant_of-end-2 g c = (c.end.invariant.0, λ k. absurd (cc))

pub invariant_of-self-2 : goal.invariant_of-self-2
invariant_of-self-2 g c =
    let i = same_run c.end.view_is c.self.invariant.1 in
    let there = outbox_below _ _ _ c.reserve.ensures.items i.outbox in
    let after = posted_holds g.C.Chare.step g.C.Pup.fits g.C.Pup.pack g.H.Openings.opened c.hop.new.self (Some c.args.address) _ i.histories
    refl refl refl c.reserve.ensures.items c.push_back_reserved.ensures.items in (
      c.self.invariant.0,
      record {
        histories = after;
        few = i.few;
        me = i.me;
        hand = i.hand;
        outbox = outbox_below _ _ _ c.push_back_reserved.ensures.items (last_below _ _ _ there c.requires.below);
        kept = tt;
      },
    )
