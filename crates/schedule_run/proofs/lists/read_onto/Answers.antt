use Rattle.std.proofs.Common.{inl, inr, arith}
use Rattle.schedule_run.proofs.ListFaults.{on_error}
use Rattle.schedule_run.proofs.lists.read_onto.Goals as goal

pub returns-in_err-len-clause-failed : goal.returns-in_err-len-clause-failed
returns-in_err-len-clause-failed g c = on_error _ _ _ (inl c.in_err-len.ensures.failed)

-- the reader was called as often as it may be
pub returns-clause-failed : goal.returns-clause-failed
returns-clause-failed g c = λ _. inr (omega (arith, c.loop-call.invariant.called))
