use Rattle.std.proofs.Common.{◌≡◌, map}
use Rattle.std.specs.List.{range_with_len}
use Rattle.heat_rod.specs.Rods.{opening_chare}
use Rattle.heat_rod.proofs.rod.Rod.chares.Given as goal

abbrev pub invariant-loop-i : goal.invariant-loop-i
invariant-loop-i g l = l.chares.items ≡ map (opening_chare l.self.plan) (range_with_len 0 l.i)
