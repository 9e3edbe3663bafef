use Rattle.lb_dump.proofs.ReadPieces.{no_answer}
use Rattle.lb_dump.proofs.decoding.feed_all.Goals as goal

pub returns-in_err-resize-clause-ended : goal.returns-in_err-resize-clause-ended
returns-in_err-resize-clause-ended g c = no_answer _ _ c.from_residual.ensures.0

pub returns-clause-ended : goal.returns-clause-ended
returns-clause-ended g c = c.feed_from.ensures.ended

pub returns-clause-fault : goal.returns-clause-fault
returns-clause-fault g c = c.feed_from.ensures.fault

pub returns-clause-so_far : goal.returns-clause-so_far
returns-clause-so_far g c = c.feed_from.ensures.so_far

pub returns-clause-failed : goal.returns-clause-failed
returns-clause-failed g c = c.feed_from.ensures.failed
