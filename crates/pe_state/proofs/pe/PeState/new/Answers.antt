use Rattle.std.proofs.Common.{ℕ, ◌<◌, subst}
use Rattle.pe_state.proofs.Histories.{new_holds}
use Rattle.pe_state.proofs.Runs.{same_run}
use Rattle.pe_state.proofs.pe.PeState.new.Goals as goal

pub invariant_of-result : goal.invariant_of-result
invariant_of-result g c = (
  c.requires.run,
  same_run c.new.ensures.value (
      record {
        histories = new_holds g.C.Chare.step g.C.Pup.fits g.C.Pup.pack g.H.Openings.opened c.args.me c.args.n c.requires.array;
        few = c.requires.few;
        me = subst (λ (k : ℕ). c.args.me < k) c.requires.run c.requires.member;
        hand = tt;
        outbox = tt;
        kept = tt;
      }
      ),
)
