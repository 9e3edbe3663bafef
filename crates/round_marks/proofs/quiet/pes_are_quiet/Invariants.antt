use Rattle.std.proofs.Common.{◌↔◌, All, drop}
use Rattle.round_marks.specs.Quiet.{IsQuietPe}
use Rattle.round_marks.proofs.quiet.pes_are_quiet.Given as goal

abbrev pub invariant-loop-pe : goal.invariant-loop-pe
invariant-loop-pe g l = All (IsQuietPe l.board) (drop l.pe-index l.pes) ↔ All (IsQuietPe l.board) l.pes
