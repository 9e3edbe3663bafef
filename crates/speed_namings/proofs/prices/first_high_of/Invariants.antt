use Rattle.std.proofs.Common.{ℕ, ◌<◌, pos, ◌+ℤ◌, ◌≤ℤ◌}
use Rattle.lb_certificates.specs.Naming.{price_at}
use Rattle.block_assignment.specs.Table.{cost_at}
use Rattle.speed_namings.specs.Timely.{MayRun}
use Rattle.speed_namings.proofs.prices.first_high_of.Given as goal

abbrev pub invariant-loop-pe : goal.invariant-loop-pe
invariant-loop-pe g l =
    (q : ℕ) → q < l.pe → MayRun l.loads l.pes l.time l.b q → (price_at l.u l.b +ℤ price_at l.v q) ≤ℤ pos (cost_at l.costs l.b q)
