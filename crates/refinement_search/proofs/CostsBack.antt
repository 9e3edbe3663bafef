-- What a cut costs, from one place to the one before it.
use Rattle.std.proofs.Common.{◌≡◌, ℕ, ◌+◌, ◌^◌, ◌<◌, ◌≤◌, List, length, get_or, arith, sym}
use Rattle.lb_snapshot.specs.Measured.{IsSizes}
use Rattle.chain_refinement.specs.Refinement.{held_before, held_bytes, held_from}
use Rattle.chain_refinement.proofs.CutCosts.{held_whole}
use Rattle.chain_refinement.proofs.HeldBytes.{cost_moves_on, held_few}

-- one place back
pub cost_moves_back : (sizes : List (ℕ × ℕ)) (from to x : ℕ) (d : ℕ × ℕ) → x < length sizes
    → held_from sizes from x + held_before sizes to x + held_bytes (get_or sizes x d) to ≡ held_from sizes from (x + 1) + held_before sizes
    to (x + 1) + held_bytes (get_or sizes x d) from
cost_moves_back sizes from to x d inside = sym (cost_moves_on sizes from to x d inside)

-- what a cut costs is far below 2^63
pub cost_few : (sizes : List (ℕ × ℕ)) (from to x : ℕ) → IsSizes sizes → held_from sizes from x + held_before sizes to x ≤ 2 ^ 37
cost_few sizes from to x valid =
    omega (arith, held_whole sizes from x, held_whole sizes to x, held_few sizes from valid, held_few sizes to valid)
