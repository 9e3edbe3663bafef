use Rattle.std.proofs.Common.{ℕ, subst}
use Rattle.pe_state.specs.Reopening.{reopened}
use Rattle.pe_state.specs.Standing.{IsOfRun}
use Rattle.pe_state.proofs.Reopened.{reopened_of_run}
use Rattle.pe_state.proofs.Runs.{same_run}
use Rattle.pe_state.proofs.pe.PeState.reopen.Goals as goal

pub invariant_of-result : goal.invariant_of-result
invariant_of-result g c = (
  c.requires.run,
  same_run {w = reopened c.args.pes c.args.end c.args.left.items} c.in_ok-take_back.ensures.ok (
      subst (λ (k : ℕ). IsOfRun g.C.Chare.step g.C.Pup.fits g.C.Pup.pack g.H.Openings.opened k (reopened c.args.pes c.args.end c.args.left.items)) c.requires.run
      (reopened_of_run g.C.Chare.step g.C.Pup.fits g.C.Pup.pack g.H.Openings.opened c.args.pes c.args.end c.args.left.items
      c.requires.member c.requires.few c.requires.histories c.requires.left)
      ),
)
