-- How far the greatest load of a block may be above the least possible one.
use Rattle.std.specs.Prelude.{ℕ, ◌+◌, ◌*◌, ◌/◌}

-- the greatest load that a block may have: this number of thousandths above the bottleneck, rounded down
abbrev pub limit_of : ℕ → ℕ → ℕ
limit_of bottleneck tolerance = bottleneck + bottleneck * tolerance / 1000
