use Rattle.std.proofs.Common.{◌*◌, ◌^◌, ◌≤◌}
use Rattle.speed_certificates.specs.declared.limits.TheConstants.SpeedLimits.{BACKGROUND, SPEED}
use Rattle.speed_partition.specs.Ticks.{ArePeTotals}
use Rattle.speed_partition.proofs.opening.totals_of.Given as goal

abbrev pub invariant-loop-pe : goal.invariant-loop-pe
invariant-loop-pe l =
    record {
      totals : ArePeTotals l.pes l.scale l.pe l.totals;
      light : l.totals.background ≤ l.pe * BACKGROUND;
      slow : l.totals.speed ≤ l.pe * SPEED;
      some_speed : l.pe ≤ l.totals.speed;
      some_slowest : 1 ≤ l.totals.slowest;
      soon : l.totals.idle ≤ 2 ^ 87;
    }
