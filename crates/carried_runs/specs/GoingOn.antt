-- When a run goes on from what an earlier one left.
use Rattle.std.specs.Prelude.{◌≡◌, Some}
use Rattle.barrier.specs.Rounds.{BeginWith}
use Rattle.pe_worker.specs.declared.fault.Fault.TheVariants.{Stopped}
use Rattle.run_account.specs.Gathering.{CountOn}
use Rattle.rts_run.specs.Outcomes.{OutcomeView}

-- No PE has posted fewer letters than in the earlier run, so that none of their numbers comes again; and the rounds that were decided
-- there are the first rounds here, with the same snapshots and decisions.
pub record GoesOnFrom {C A : Type 0} (earlier later : OutcomeView C A) : Type 0 where
  pub counts : CountOn earlier.ends later.ends
  pub rounds : BeginWith earlier.board.rounds later.board.rounds

-- The parts of a run, from one outcome to the last: each but the last was stopped, so that no worker had met another fault in it.
pub data AreParts {C A : Type 0} (first : OutcomeView C A) : OutcomeView C A → Type 0 where
  Whole : AreParts first first
  Pause : (o later : OutcomeView C A) → AreParts first o → o.fault ≡ Some Stopped → GoesOnFrom o later → AreParts first later
