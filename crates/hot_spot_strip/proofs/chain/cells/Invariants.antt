use Rattle.std.proofs.Common.{◌≡◌, ◌-◌, map}
use Rattle.std.specs.List.{range_with_len}
use Rattle.hot_spot_strip.specs.Mixing.{mix}
use Rattle.hot_spot_strip.proofs.chain.cells.Given as goal

abbrev pub invariant-loop-number : goal.invariant-loop-number
invariant-loop-number g l = l.cells.items ≡ map mix (range_with_len l.first (l.number - l.first))
