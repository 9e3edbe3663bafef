use Rattle.overtaking_laws.proofs.ByCopies.{copies_stale, free_is_stale}
use Rattle.overtaking_laws.proofs.copies.copy_laws.Goals as goal

pub returns-clause-copies : goal.returns-clause-copies
returns-clause-copies g c = λ w events last run.
    copies_stale g.C.Chare.step g.C.Pup.pack g.C.Pup.unpack w events last run

pub returns-clause-free : goal.returns-clause-free
returns-clause-free g c = λ w steps last run.
    free_is_stale g.C.Chare.step g.C.Pup.pack g.C.Pup.unpack w steps last run
