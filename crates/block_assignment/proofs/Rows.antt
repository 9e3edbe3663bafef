-- The costs of one block, and of the blocks before it.
use Rattle.std.proofs.Common.{◌≡◌, ℕ, ◌+◌, ◌-◌, ◌*◌, ◌^◌, ◌<◌, ◌≤◌, ◌==◌, inl, inr, List, ◌++◌, All, length, drop, get_or, slice_index, sum_by, arith, ap, sym, ◌∙◌, subst, refl}
use Rattle.std.proofs.lemmas.Bool.{cases_lt, cond_both}
use Rattle.std.proofs.lemmas.List.{get_or_append_left, get_or-append_right, length-drop, length-append, get_or_default}
use Rattle.std.proofs.lemmas.List.Elements.{All-drop, All-append}
use Rattle.std.proofs.lemmas.List.Sums.{sum_by-le, sum_by-take-le}
use Rattle.std.proofs.lemmas.Nat.{mul-add-lt}
use Rattle.chare_index.specs.declared.limits.TheConstants.Limits.{STATE_BYTES}
use Rattle.lb_snapshot.specs.Measured.{IsSizes}
use Rattle.lb_certificates.specs.Naming.{moved_bytes, block_cost}
use Rattle.block_assignment.specs.Table.{IsTableOf, IsWithin}

-- no more bytes of an element move than it has
pub moved_le : (size : ℕ × ℕ) (p : ℕ) → moved_bytes size p ≤ size.0
moved_le size p = cond_both (size.1 == p) 0 size.0 (λ n. n ≤ size.0) (λ _. omega arith) (λ _. omega arith)

pub block_cost_small : (sizes : List (ℕ × ℕ)) (cuts : List ℕ) (b p : ℕ) → IsSizes sizes → block_cost sizes cuts b p ≤ 2 ^ 36
block_cost_small sizes cuts b p h =
    let first : ℕ = slice_index cuts b in
    let behind : All (λ size. size.0 ≤ STATE_BYTES) (drop first sizes) = All-drop (λ (size : ℕ × ℕ). size.0 ≤ STATE_BYTES) first sizes h.small in
    let whole : sum_by (λ size. moved_bytes size p) (drop first sizes) ≤ length (drop first sizes) * STATE_BYTES =
    sum_by-le (λ size. moved_bytes size p) STATE_BYTES (drop first sizes) (λ i d inside. omega (arith, moved_le (get_or (drop first sizes) i d) p, behind i d inside)) in
    let part : block_cost sizes cuts b p ≤ sum_by (λ size. moved_bytes size p) (drop first sizes) =
    sum_by-take-le (λ size. moved_bytes size p) (drop first sizes) (slice_index cuts (b + 1) - first) in
    omega (arith, whole, part, length-drop first sizes, h.few)

-- the rows of the first b blocks, with no cost above a bound
pub record HasRowsOf (most : ℕ) (cost : ℕ → ℕ → ℕ) (blocks b : ℕ) (costs : List ℕ) : Type 0 where
  pub counted : length costs ≡ b * blocks
  pub small : All (λ cost. cost ≤ most) costs
  pub exact : (k p : ℕ) → k < b → p < blocks → slice_index costs (k * blocks + p) ≡ cost k p

-- the rows of the first b blocks of elements
abbrev pub HasRows : ℕ → List (ℕ × ℕ) → List ℕ → ℕ → ℕ → List ℕ → Type 0
HasRows most sizes cuts = HasRowsOf most (block_cost sizes cuts)

-- one more row
pub rows_more_of : (most : ℕ) (cost : ℕ → ℕ → ℕ) (blocks b : ℕ) (costs row : List ℕ) → ((p : ℕ) → p < blocks → cost b p ≤ most)
    → HasRowsOf most cost blocks b costs → length row ≡ blocks → ((p : ℕ) → p < blocks → slice_index row p ≡ cost b p)
    → HasRowsOf most cost blocks (b + 1) (costs ++ row)
rows_more_of most cost blocks b costs row within rows counted exact =
    record {
      counted = omega (arith, rows.counted, length-append costs row);
      small = All-append (λ cost. cost ≤ most) costs row rows.small (λ p d inside. omega (arith, get_or_default row p 0 d inside, exact p (omega arith), within p (omega arith)));
      exact = λ k p before inside. elim (cases_lt k b) [
        | inl earlier ↦
            let below : k * blocks + p < length costs = omega (arith, rows.counted, mul-add-lt k blocks p b earlier inside) in
            get_or_append_left costs row 0 (k * blocks + p) below ∙ rows.exact k p earlier inside
        | inr last ↦
            let e : k ≡ b = omega arith in
            let turned : b * blocks + p - b * blocks ≡ p = omega arith in
            let read : slice_index (costs ++ row) (b * blocks + p) ≡ slice_index row (b * blocks + p - b * blocks) = get_or-append_right
            costs row (b * blocks) (b * blocks + p) 0 rows.counted (omega arith) in
            subst (λ n. slice_index (costs ++ row) (n * blocks + p) ≡ cost n p) (sym e) (read ∙ ap (λ n. slice_index row n) turned ∙ exact p inside)
      ];
    }

pub rows_more : (most : ℕ) (sizes : List (ℕ × ℕ)) (cuts : List ℕ) (blocks b : ℕ) (costs row : List ℕ)
    → ((p : ℕ) → block_cost sizes cuts b p ≤ most) → HasRows most sizes cuts blocks b costs → length row ≡ blocks
    → ((p : ℕ) → p < blocks → slice_index row p ≡ block_cost sizes cuts b p) → HasRows most sizes cuts blocks (b + 1) (costs ++ row)
rows_more most sizes cuts blocks b costs row within =
    rows_more_of most (block_cost sizes cuts) blocks b costs row (λ p _. within p)

-- the rows of all blocks are a table
pub table_of_rows : (most_blocks most : ℕ) (sizes : List (ℕ × ℕ)) (cuts : List ℕ) (blocks : ℕ) (costs : List ℕ) → 1 ≤ blocks
    → blocks ≤ most_blocks → HasRows most sizes cuts blocks blocks costs → IsWithin most_blocks most (record { blocks = blocks; costs = costs })
table_of_rows most_blocks most sizes cuts blocks costs some few rows = record { some_block = some; few_blocks = few; square = rows.counted; small = rows.small }

-- and the table of these cuts
pub exact_of_rows : (most : ℕ) (sizes : List (ℕ × ℕ)) (cuts : List ℕ) (costs : List ℕ)
    → HasRows most sizes cuts (length cuts - 1) (length cuts - 1) costs → IsTableOf sizes cuts (record { blocks = length cuts - 1; costs = costs })
exact_of_rows most sizes cuts costs rows = record { counted = refl; exact = rows.exact }
