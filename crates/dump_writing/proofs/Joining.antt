-- The text of a list as it grows.
use Rattle.std.proofs.Common.{◌≡◌, ℕ, zero, suc, ◌+◌, ◌-◌, ◌*◌, ◌<◌, ◌≤◌, List, [], ◌++◌, length, take, drop, length-take, length-drop, refl, sym, ap, ◌∙◌, append_assoc, append-nil, zero-add, add-zero, arith}
use Rattle.std.proofs.Math.Nat.{mul-zero, mul-add, mul-one, mul-le-mul_left}
use Rattle.std.proofs.lemmas.Slice.{take-put_mid}
use borrow.Rule.Slice.PartMut.{put_mid}
use Rattle.dump_writing.specs.Joined.{joined}

suc_add : (m n : ℕ) → suc m + n ≡ suc (m + n)
suc_add m n = omega arith

-- the first m items, and n more
pub joined_split : (item : ℕ → List ℕ) (m n : ℕ) → joined item (m + n) ≡ joined item m ++ joined (λ k. item (m + k)) n
unfolding joined
joined_split item zero n = simp zero-add
joined_split item (suc m) n = simp suc_add (ap (λ rest. item 0 ++ rest) (joined_split (λ k. item (suc k)) m n)
    ∙ sym (append_assoc (item 0) (joined (λ k. item (suc k)) m) (joined (λ k. item (suc (m + k))) n)))

-- one item alone
joined_one : (item : ℕ → List ℕ) → joined item 1 ≡ item 0
unfolding joined
joined_one item = append-nil (item 0)

-- one item more
pub joined_more : (item : ℕ → List ℕ) (n : ℕ) → joined item (n + 1) ≡ joined item n ++ item n
joined_more item n = joined_split item n 1 ∙ ap (λ last. joined item n ++ last) (joined_one (λ k. item (n + k)) ∙ ap item (add-zero n))

none : (first : ℕ) → first - first ≡ 0
none first = omega arith

-- a block that has no item yet
pub place_first : (len first : ℕ) → 0 ≡ len * (first - first)
place_first len first = rw (none first, mul-zero) refl

pub filled_none : (item : ℕ → List ℕ) (first : ℕ) → [] ≡ joined item (first - first)
unfolding joined
filled_none item first = rw (none first) refl

next : (first i : ℕ) → first ≤ i → (i + 1) - first ≡ (i - first) + 1
next first i above = omega arith

-- where the item after item i begins in a block
pub place_next : (len first i at : ℕ) → first ≤ i → at ≡ len * (i - first) → at + len ≡ len * ((i + 1) - first)
place_next len first i at above is = rw (next first i above, mul-add, mul-one, is) refl

-- an item is inside a block that has the capacity for all items
pub place_inside : (len first i end at room : ℕ) → first ≤ i → i < end → at ≡ len * (i - first) → len * (end - first) ≤ room → at + len ≤ room
place_inside len first i end at room above below is fits =
    omega (arith, mul-le-mul_left {m = (i + 1) - first} {n = end - first} len (omega arith), place_next len first i at above is)

-- the bytes that replace an item have its length
pub item_length : (len at : ℕ) (block new : List ℕ) → length new ≡ length (take (at + len - at) (drop at block)) → at + len ≤ length block → length new ≡ len
item_length len at block new same inside = omega (arith, simp (length-take, length-drop) at same)

-- a block with one item more
pub filled_more : (item : ℕ → List ℕ) (len first i at : ℕ) (block new : List ℕ) → first ≤ i → at + len ≤ length block
    → length new ≡ length (take (at + len - at) (drop at block)) → new ≡ item i
    → take at block ≡ joined (λ k. item (first + k)) (i - first) → take (at + len) (put_mid at (at + len - at) block new) ≡ joined (λ k. item (first + k)) ((i + 1) - first)
filled_more item len first i at block new above inside same is before =
    let here : first + (i - first) ≡ i = omega arith in
    let whole : length new ≡ len = item_length len at block new same inside in
    take-put_mid at (at + len - at) block new (at + len) (omega arith) (omega arith) ∙ ap (λ front. front ++ new) before
    ∙ ap (λ last. joined (λ k. item (first + k)) (i - first) ++ last) (is ∙ ap item (sym here))
    ∙ sym (joined_more (λ k. item (first + k)) (i - first)) ∙ ap (joined (λ k. item (first + k))) (sym (next first i above))

-- a block with all items
pub filled_all : (item : ℕ → List ℕ) (len first i end at : ℕ) (block : List ℕ) → i ≡ end → at ≡ len * (i - first) → take at block ≡ joined (λ k. item (first + k)) (i - first)
    → take (len * (end - first)) block ≡ joined (λ k. item (first + k)) (end - first)
filled_all item len first i end at block all is before =
    ap (λ n. take (len * (n - first)) block) (sym all) ∙ ap (λ n. take n block) (sym is) ∙ before ∙ ap (λ n. joined (λ k. item (first + k)) (n - first)) all
