-- The costs of blocks whose elements are two lists, one of sizes and one of places.
use Rattle.std.proofs.Common.{ℕ, ◌+◌, ◌-◌, ◌≤◌, List, take, drop, slice_index, sum, sum_by, arith}
use Rattle.std.proofs.lemmas.List.Sums.{sum_by-le-sum_by, sum_by-take-drop, sum_by-take-le}
use Rattle.lb_certificates.specs.Naming.{moved_bytes, block_cost}
use Rattle.block_assignment.proofs.Rows.{moved_le}

-- consecutive numbers add up to no more than all
pub part_small : (bytes : List ℕ) (first count most : ℕ) → sum bytes ≤ most → sum (take count (drop first bytes)) ≤ most
part_small bytes first count most small =
    omega (arith, small, sum_by-take-le (λ (x : ℕ). x) (drop first bytes) count, sum_by-take-drop (λ (x : ℕ). x) bytes first)

-- no block costs more than all bytes
pub cost_in_all : (sizes : List (ℕ × ℕ)) (cuts : List ℕ) (b p most : ℕ) → sum_by (λ size. size.0) sizes ≤ most → block_cost sizes cuts b p ≤ most
cost_in_all sizes cuts b p most small =
    let first : ℕ = slice_index cuts b in
    let part : block_cost sizes cuts b p ≤ sum_by (λ size. moved_bytes size p) (drop first sizes) =
    sum_by-take-le (λ size. moved_bytes size p) (drop first sizes) (slice_index cuts (b + 1) - first) in
    omega (
      arith,
      small,
      part,
      sum_by-take-drop (λ size. moved_bytes size p) sizes first,
      sum_by-le-sum_by (λ size. moved_bytes size p) (λ (size : ℕ × ℕ). size.0) sizes (λ size. moved_le size p),
    )
