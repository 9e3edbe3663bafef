use Rattle.std.proofs.Common.{◌≡◌, ◌≤◌, slice_index}
use Rattle.std.specs.Prelude.{◌==◌, if◌then◌else◌}
use Rattle.lb_certificates.specs.Naming.{total}
use Rattle.load_report.proofs.figures.zeros_of.Given as goal

abbrev pub invariant-loop-p : goal.invariant-loop-p
invariant-loop-p l = record {
  counted : l.zeros ≡ total l.p (λ p. if slice_index l.counts p == 0 then 1 else 0);
  few : l.zeros ≤ l.p;
}
