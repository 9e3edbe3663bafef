use Rattle.rts_run.proofs.Faults.{never_both, not_true}
use Rattle.rts_run.proofs.running.is_quiet.Goals as goal

pub returns-then-run_is_quiet-clause-unfinished : goal.returns-then-run_is_quiet-clause-unfinished
returns-then-run_is_quiet-clause-unfinished g c = λ t all. never_both c.run_finished.result t (c.run_finished.ensures.finished.1 all)

pub returns-then-run_is_quiet-clause-all : goal.returns-then-run_is_quiet-clause-all
returns-then-run_is_quiet-clause-all g c = λ asked met quiet unfinished. not_true c.run_finished.result (λ t. unfinished (c.run_finished.ensures.finished.0 t))

pub returns-else-run_is_quiet-clause-all : goal.returns-else-run_is_quiet-clause-all
returns-else-run_is_quiet-clause-all g c = λ asked met quiet unfinished. c.run_is_quiet.ensures.quiet.1 quiet
