use Rattle.std.proofs.Common.{◌≡◌, ◌≤◌, ◌*◌, ◌^◌, slice_index}
use Rattle.lb_certificates.specs.Naming.{total}
use Rattle.load_report.specs.Figures.{billion, billionths, square_apart}
use Rattle.load_report.proofs.deviation.squares_of.Given as goal

abbrev pub invariant-loop-p : goal.invariant-loop-p
invariant-loop-p l = record {
  value : l.squares ≡ total l.p (λ p. square_apart (billionths l.pes l.total (slice_index l.sums p)) billion);
  small : l.squares ≤ l.p * 2 ^ 100;
}
