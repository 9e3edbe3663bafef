use Rattle.std.proofs.Common.{◌↔◌, All, drop}
use Rattle.round_marks.specs.Finished.{HasFinishedPe}
use Rattle.round_marks.proofs.finished.pes_finished.Given as goal

abbrev pub invariant-loop-pe : goal.invariant-loop-pe
invariant-loop-pe g l = All HasFinishedPe (drop l.pe-index l.pes) ↔ All HasFinishedPe l.pes
