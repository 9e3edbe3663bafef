use Rattle.std.proofs.Common.{◌↔◌, All, drop}
use Rattle.round_marks.specs.Runs.{IsMarkedPe}
use Rattle.round_marks.proofs.run.pes_agree.Given as goal

abbrev pub invariant-loop-pe : goal.invariant-loop-pe
invariant-loop-pe g l = All (IsMarkedPe l.board l.homes) (drop l.pe-index l.pes) ↔ All (IsMarkedPe l.board l.homes) l.pes
