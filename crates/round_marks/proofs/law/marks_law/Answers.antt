use Rattle.round_marks.proofs.Agreed.{all_marked}
use Rattle.round_marks.proofs.law.marks_law.Goals as goal

pub returns : goal.returns
returns g c = record {
  follow = λ opened board homes ends left counted pes queues h. all_marked g.C.Chare.step g.C.Pup.fits g.C.Pup.pack opened board homes counted ends left pes queues h;
}
