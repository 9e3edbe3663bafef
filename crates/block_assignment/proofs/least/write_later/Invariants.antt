use Rattle.std.proofs.Common.{◌≡◌, ℕ, ◌<◌}
use Rattle.block_assignment.specs.Least.{member}
use Rattle.block_assignment.proofs.least.write_later.Given as goal

abbrev pub invariant-loop-j : goal.invariant-loop-j
invariant-loop-j l =
    record {
      later : (k : ℕ) → member l.set k ≡ 1 → (l.b < k) × (k < l.j);
      all : (k : ℕ) → l.b < k → k < l.j → member l.set k ≡ 1;
    }
