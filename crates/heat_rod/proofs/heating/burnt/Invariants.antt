use Rattle.std.proofs.Common.{◌≡◌}
use Rattle.heat_rod.specs.Heating.{burnt}
use Rattle.heat_rod.proofs.heating.burnt.Given as goal

abbrev pub invariant-loop : goal.invariant-loop
invariant-loop l = l.now ≡ burnt l.heat l.counter
