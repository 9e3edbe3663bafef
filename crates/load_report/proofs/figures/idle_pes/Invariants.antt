use Rattle.std.proofs.Common.{◌≡◌, ◌≤◌, slice_index}
use Rattle.load_report.specs.Figures.{idle_of}
use Rattle.load_report.proofs.figures.idle_pes.Given as goal

abbrev pub invariant-loop-p : goal.invariant-loop-p
invariant-loop-p l = record {
  counted : l.idle ≡ idle_of l.p (slice_index l.sums);
  few : l.idle ≤ l.p;
}
