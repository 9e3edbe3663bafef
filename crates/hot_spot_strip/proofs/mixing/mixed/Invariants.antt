use Rattle.std.proofs.Common.{◌≡◌}
use Rattle.hot_spot_strip.specs.Mixing.{mixed}
use Rattle.hot_spot_strip.proofs.mixing.mixed.Given as goal

abbrev pub invariant-loop : goal.invariant-loop
invariant-loop l = l.now ≡ mixed l.x l.counter
