-- A naming checked by a table of the bytes of each block on each PE.
use Rattle.std.proofs.Common.{◌≡◌, inl, inr, ℕ, suc, ◌+◌, ◌-◌, ◌*◌, ◌<◌, ◌≤◌, ◌==◌, cond, List, [], ◌∷◌, All, length, get_or, take, drop, slice_index, sum, sum_by, arith, ap, sym, ◌∙◌, refl}
use Rattle.std.proofs.lemmas.Bool.{cases_eq, cond-true, cond-false, eq-eqb, ne_eqb}
use Rattle.std.proofs.lemmas.List.{get_or-drop, get_or-take, length-drop, length-take, take_all}
use Rattle.std.proofs.lemmas.List.Elements.{All-drop, All-take}
use Rattle.std.proofs.lemmas.List.Sums.{sum_by-cons}
use Rattle.std.proofs.lemmas.Nat.{mul-add-lt}
use Rattle.lb_certificates.specs.Held.{IsHeld, held_cost, held_moved, row_of}
use Rattle.lb_certificates.specs.Naming.{IsNaming, block_cost, bytes_moved, moved_bytes, total}
use Rattle.lb_certificates.proofs.BlockSums.{moved_is_cost}
use Rattle.lb_certificates.proofs.Totals.{pick_one, total_add, total_none, total_same, total_take}

-- a row ends within the table
pub row_within : (blocks b : ℕ) → b < blocks → b * blocks + blocks ≤ blocks * blocks
row_within blocks b inside =
    omega (arith, mul-add-lt b blocks (blocks - 1) blocks inside (omega (arith, inside)))

-- an entry of a row
pub row_entry : (blocks : ℕ) (held : List ℕ) (b p : ℕ) → p < blocks → slice_index (row_of blocks held b) p ≡ slice_index held (b * blocks + p)
row_entry blocks held b p inside =
    get_or-take (b * blocks + blocks - b * blocks) (drop (b * blocks) held) p 0 (omega (arith, inside)) ∙ get_or-drop (b * blocks) held p 0

pub row_counted : (blocks : ℕ) (held : List ℕ) (b : ℕ) → length held ≡ blocks * blocks → b < blocks → length (row_of blocks held b) ≡ blocks
row_counted blocks held b square inside =
    omega (arith, row_within blocks b inside, square, length-take (b * blocks + blocks - b * blocks) (drop (b * blocks) held), length-drop (b * blocks) held)

-- the sum of a row, by its places
row_sum : (blocks : ℕ) (held : List ℕ) (b : ℕ) → length held ≡ blocks * blocks → b < blocks → sum (row_of blocks held b) ≡ total blocks (λ p. slice_index held (b * blocks + p))
row_sum blocks held b square inside =
    let row : List ℕ = row_of blocks held b in
    let counted : length row ≡ blocks = row_counted blocks held b square inside in
    let all : total blocks (λ p. get_or row p 0) ≡ sum (take blocks row) = total_take (λ (x : ℕ). x) row 0 blocks (omega (arith, counted)) in
    let whole : sum (take blocks row) ≡ sum row = ap sum (take_all blocks row (omega (arith, counted))) in
    sym (all ∙ whole) ∙ total_same blocks (λ p. get_or row p 0) (λ p. slice_index held (b * blocks + p)) (λ p below. row_entry blocks held b p below)

-- the bytes of an element on its PE, and 0 elsewhere
abbrev bytes_at : ℕ × ℕ → ℕ → ℕ
bytes_at size p = cond (size.1 == p) size.0 0

-- elements on the PEs below a bound: what each of these has adds up to their bytes
on_all : (n : ℕ) (sizes : List (ℕ × ℕ)) → All (λ size. size.1 < n) sizes → total n (λ p. sum_by (λ size. bytes_at size p) sizes) ≡ sum_by (λ size. size.0) sizes
on_all n [] placed = total_none n
on_all n (size ∷ sizes) placed =
    let here : total n (λ p. bytes_at size p) ≡ size.0 = pick_one n size.1 size.0 (placed 0 size (omega arith)) in
    let rest : total n (λ p. sum_by (λ size. bytes_at size p) sizes) ≡ sum_by (λ size. size.0) sizes = on_all n sizes (λ k d inside. placed (suc k) d (omega (arith, inside))) in
    let both = total_add n (λ p. bytes_at size p) (λ p. sum_by (λ size. bytes_at size p) sizes) in
    let split : total n (λ p. sum_by (λ size. bytes_at size p) (size ∷ sizes)) ≡ total n
    (λ p. bytes_at size p + sum_by (λ size. bytes_at size p) sizes) = total_same n _ _ (λ p _. sum_by-cons (λ size. bytes_at size p) size sizes) in
    omega (arith, here, rest, both, split, sum_by-cons (λ (s : ℕ × ℕ). s.0) size sizes)

-- each byte is on a PE or moves there
moved_or_held : (size : ℕ × ℕ) (p : ℕ) → moved_bytes size p + bytes_at size p ≡ size.0
moved_or_held size p =
    elim (cases_eq size.1 p) [
      | inl same ↦ omega (arith, cond-true (size.1 == p) 0 size.0 (eq-eqb size.1 p same), cond-true (size.1 == p) size.0 0 (eq-eqb size.1 p same))
      | inr apart ↦ omega (arith, cond-false (size.1 == p) 0 size.0 (ne_eqb size.1 p apart), cond-false (size.1 == p) size.0 0 (ne_eqb size.1 p apart))
    ]

all_moved_or_held : (sizes : List (ℕ × ℕ)) (p : ℕ) → sum_by (λ size. moved_bytes size p) sizes + sum_by (λ size. bytes_at size p) sizes ≡ sum_by (λ size. size.0) sizes
all_moved_or_held [] p = refl
all_moved_or_held (size ∷ sizes) p =
    omega (
      arith,
      all_moved_or_held sizes p,
      moved_or_held size p,
      sum_by-cons (λ size. moved_bytes size p) size sizes,
      sum_by-cons (λ size. bytes_at size p) size sizes,
      sum_by-cons (λ (s : ℕ × ℕ). s.0) size sizes,
    )

-- what a block costs by the table of its elements
pub cost_by_table : (blocks : ℕ) (sizes : List (ℕ × ℕ)) (cuts held : List ℕ) (b p : ℕ) → length held ≡ blocks * blocks
    → IsHeld blocks sizes cuts held → b < blocks → p < blocks → held_cost blocks held b p ≡ block_cost sizes cuts b p
cost_by_table blocks sizes cuts held b p square table block pe =
    let first : ℕ = slice_index cuts b in
    let count : ℕ = slice_index cuts (b + 1) - first in
    let elements : List (ℕ × ℕ) = take count (drop first sizes) in
    let placed : All (λ size. size.1 < blocks) elements = All-take (λ (size : ℕ × ℕ). size.1 < blocks) count (drop first sizes)
    (All-drop (λ (size : ℕ × ℕ). size.1 < blocks) first sizes table.placed) in
    let entries : total blocks (λ q. slice_index held (b * blocks + q)) ≡ total blocks
    (λ q. sum_by (λ size. bytes_at size q) elements) = total_same blocks _ _ (λ q below. table.exact b q block below) in
    omega (
      arith,
      row_sum blocks held b square block,
      entries,
      on_all blocks elements placed,
      all_moved_or_held elements p,
      table.exact b p block pe,
      row_entry blocks held b p pe,
    )

-- and what a naming moves
pub moved_by_table : (blocks : ℕ) (sizes : List (ℕ × ℕ)) (cuts held names : List ℕ) → length held ≡ blocks * blocks
    → IsHeld blocks sizes cuts held → IsNaming blocks names → held_moved blocks held names ≡ bytes_moved sizes cuts names
moved_by_table blocks sizes cuts held names square table naming =
    total_same blocks _ _ (λ b inside. cost_by_table blocks sizes cuts held b (slice_index names b) square table inside
    (naming.below b inside)) ∙ sym (moved_is_cost sizes cuts names blocks table.divides)
