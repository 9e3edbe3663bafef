use Rattle.std.proofs.Common.{◌↔◌, ◌≤◌, drop}
use Rattle.chare_index.specs.declared.limits.TheConstants.Limits.{ROUND}
use Rattle.round_marks.proofs.Right.{GoesRight}
use Rattle.round_marks.proofs.marks.are_right.Given as goal

-- the marks that are left go on as all of them do from the first on
abbrev pub invariant-loop-mark : goal.invariant-loop-mark
invariant-loop-mark g l = record {
  few : l.reached ≤ ROUND;
  same : GoesRight l.board l.e l.home l.reached l.least (drop l.mark-index l.marks) ↔ GoesRight l.board l.e l.home 0 0 l.marks;
}
