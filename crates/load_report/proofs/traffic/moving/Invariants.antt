use Rattle.std.proofs.Common.{◌≡◌}
use Rattle.load_report.proofs.Traffics.{moving_below}
use Rattle.load_report.proofs.traffic.moving.Given as goal

abbrev pub invariant-loop-i : goal.invariant-loop-i
invariant-loop-i g l = l.bytes.items ≡ moving_below l.sizes l.places l.i
