-- The bytes on a PE: how many there can be, and how they change from place to place.
use Rattle.std.proofs.Common.{◌≡◌, ℕ, ◌+◌, ◌*◌, ◌^◌, ◌<◌, ◌≤◌, Bool, true, false, cond, List, length, get_or, slice_index, arith}
use Rattle.std.proofs.lemmas.List.Sums.{sum_by-le, sum_by_more, sum_by_more_le, sum_by-drop_more}
use Rattle.std.proofs.Math.Nat.{mul-le-mul_right}
use Rattle.chare_index.specs.declared.limits.TheConstants.Limits.{STATE_BYTES}
use Rattle.lb_snapshot.specs.Measured.{IsSizes}
use Rattle.chain_refinement.specs.Refinement.{cut_cost, held, held_before, held_bytes, held_from}

all_or_none : (here : Bool) (bytes most : ℕ) → bytes ≤ most → cond here bytes 0 ≤ most
all_or_none true bytes most within = within
all_or_none false bytes most within = omega arith

-- at most the limit of bytes for each element
pub held_small : (sizes : List (ℕ × ℕ)) (pe : ℕ) → IsSizes sizes → held sizes pe ≤ length sizes * STATE_BYTES
held_small sizes pe measured =
    sum_by-le (λ size. held_bytes size pe) STATE_BYTES sizes (λ i d inside. all_or_none _ _ _ (measured.small i d inside))

-- which is far below what 64 bits hold
pub held_few : (sizes : List (ℕ × ℕ)) (pe : ℕ) → IsSizes sizes → held sizes pe ≤ 2 ^ 36
held_few sizes pe measured =
    omega (arith, held_small sizes pe measured, mul-le-mul_right STATE_BYTES measured.few)

pub next_held_fits : (sizes : List (ℕ × ℕ)) (pe i : ℕ) (d : ℕ × ℕ) → IsSizes sizes → i < length sizes → held_before sizes pe i + held_bytes (get_or sizes i d) pe < 2 ^ 64
next_held_fits sizes pe i d measured inside =
    omega (arith, held_few sizes pe measured, sum_by_more_le (λ size. held_bytes size pe) sizes i d inside)

-- what a cut costs behind an element, by what it costs before it
pub cost_moves_on : (sizes : List (ℕ × ℕ)) (from to x : ℕ) (d : ℕ × ℕ) → x < length sizes
    → held_from sizes from (x + 1) + held_before sizes to (x + 1) + held_bytes (get_or sizes x d) from ≡ held_from sizes from
    x + held_before sizes to x + held_bytes (get_or sizes x d) to
cost_moves_on sizes from to x d inside =
    let joins = sum_by_more (λ size. held_bytes size to) sizes x d inside in
    let leaves = sum_by-drop_more (λ size. held_bytes size from) sizes x d inside in
    omega (arith, joins, leaves)

-- at the beginning of the chain a cut costs all bytes on the PE of the block before it
pub first_cost : (sizes : List (ℕ × ℕ)) (names : List ℕ) (b : ℕ) → held sizes (slice_index names b) ≡ cut_cost sizes names b 0
first_cost sizes names b = omega arith
