use Rattle.std.proofs.Common.{◌≡◌, drop}
use Rattle.rts_run.specs.Outcomes.{element_on}
use Rattle.rts_run.proofs.outcome.element_on.Given as goal

abbrev pub invariant-loop-end : goal.invariant-loop-end
invariant-loop-end g l = element_on l.index (drop l.end-index l.ends) ≡ element_on l.fn.index l.fn.ends
