use Rattle.schedules.proofs.shrinking.bad_run.Goals as goal

pub returns-clause-answer : goal.returns-clause-answer
returns-clause-answer g c = (
  c.in_ok-explored.explored,
  c.in_ok-explored.ensures.whole,
  c.in_ok-explored.ensures.picks,
  rw c.is_bad.ensures.value at c.if-is_bad.false,
)
