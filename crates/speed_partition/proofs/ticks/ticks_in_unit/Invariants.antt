use Rattle.std.specs.Int.{◌∣◌}
use Rattle.std.proofs.Common.{ℕ, ◌<◌, ◌≤◌}
use Rattle.speed_certificates.specs.declared.limits.TheConstants.SpeedLimits.{SPEED}
use Rattle.speed_certificates.specs.Speeds.{speed_of}
use Rattle.speed_partition.proofs.ticks.ticks_in_unit.Given as goal

abbrev pub invariant-loop-pe : goal.invariant-loop-pe
invariant-loop-pe l =
    record {
      some : 1 ≤ l.greatest;
      small : l.greatest ≤ SPEED;
      above : (p : ℕ) → p < l.pe → speed_of l.pes p ≤ l.greatest;
      some_divisor : 1 ≤ l.divisor;
      divides : l.divisor ∣ l.greatest;
      each : (p : ℕ) → p < l.pe → l.divisor ∣ speed_of l.pes p;
    }
