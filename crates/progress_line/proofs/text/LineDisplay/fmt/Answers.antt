use Rattle.progress_line.proofs.Rooms.{columns_after}
use Rattle.progress_line.proofs.text.LineDisplay.fmt.Goals as goal

pub returns-clause-writes : goal.returns-clause-writes
returns-clause-writes g c = rw (← columns_after _ _ _ c.in_ok-write.ensures.writes) c.write-2.ensures.writes
