use Rattle.std.proofs.Common.{◌≡◌}
use Rattle.rts_run.specs.Outcomes.{EndsIdle, IsOutcome, StopsEarly}
use Rattle.carried_runs.specs.GoingOn.{AreParts, GoesOnFrom}
use Rattle.carried_runs.proofs.parts.go_on.Given as goal

-- what was left so far is an outcome of the run from its beginning, which ended as the options ask, goes on from the first, and whose
-- elements opened where they did
abbrev pub invariant-loop : goal.invariant-loop
invariant-loop g l = record {
  outcome : IsOutcome g.C.Chare.step g.C.Pup.fits g.C.Pup.pack g.C.Chare.refuses l.opening.value.items l.config.pes l.options.strategy l.outcome;
  idle : EndsIdle l.options.idle l.outcome;
  stopped : StopsEarly l.outcome;
  parts : AreParts l.fn.outcome l.outcome;
  goes_on : GoesOnFrom l.fn.outcome l.outcome;
  homes : l.outcome.homes ≡ l.fn.outcome.homes;
}
