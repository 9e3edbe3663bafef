-- The places of the elements, block by block.
use Rattle.std.proofs.Common.{◌≡◌, ℕ, ◌+◌, ◌-◌, ◌<◌, ◌≤◌, inl, inr, List, ◌++◌, length, take, drop, replicate, slice_index, All, arith, ap, sym, ◌∙◌}
use Rattle.std.proofs.lemmas.Bool.{cases_lt}
use Rattle.std.proofs.lemmas.List.{get_or_append_left, get_or-append_right, get_or-take, get_or-replicate, length-append, length-drop, length-replicate, length-take}
use Rattle.std.proofs.lemmas.List.Edits.{get_or-between, length-between}
use Rattle.std.proofs.lemmas.List.Elements.{All-from_get_or, All-get_or}
use Rattle.std.specs.List.{between}
use borrow.Rule.Slice.PartMut.{put_mid, post_of}
use Rattle.lb_certificates.specs.Chain.{IsDivision}
use Rattle.lb_certificates.proofs.BlockSums.{block_of_is}
use Rattle.lb_strategy.specs.Moves.{planned_pe}

-- a block begins no later than it ends, and ends within the elements
rises : (n blocks : ℕ) (cuts : List ℕ) (b : ℕ) → IsDivision 0 n blocks cuts → b < blocks → slice_index cuts b ≤ slice_index cuts (b + 1)
rises n blocks cuts b division inside = division.ordered b (b + 1) 0 (omega arith) (omega (arith, inside, division.counted))

stays : (n blocks : ℕ) (cuts : List ℕ) (b : ℕ) → IsDivision 0 n blocks cuts → b < blocks → slice_index cuts (b + 1) ≤ n
stays n blocks cuts b division inside = omega (arith, division.ends, division.ordered (b + 1) blocks 0 (omega (arith, inside)) (omega (arith, division.counted)))

-- the planned PE of an element of a block
planned_in : (n blocks : ℕ) (cuts names : List ℕ) (b k : ℕ) → IsDivision 0 n blocks cuts → b < blocks → slice_index cuts b ≤ k
    → k < slice_index cuts (b + 1) → planned_pe cuts names k ≡ slice_index names b
planned_in n blocks cuts names b k division inside low high = ap (slice_index names) (block_of_is n blocks cuts b k division inside low high)

-- the number of places in a block
width : (n blocks : ℕ) (cuts names places filled : List ℕ) (b : ℕ) → IsDivision 0 n blocks cuts → b < blocks → length places ≡ n
    → filled ≡ replicate (length (between (slice_index cuts b) (slice_index cuts (b + 1)) places)) (slice_index names b)
    → length filled ≡ slice_index cuts (b + 1) - slice_index cuts b
width n blocks cuts names places filled b division inside counted is_filled =
    ap length is_filled
    ∙ length-replicate (length (between (slice_index cuts b) (slice_index cuts (b + 1)) places)) (slice_index names b)
    ∙ length-between places (slice_index cuts b) (slice_index cuts (b + 1)) (omega (arith, stays n blocks cuts b division inside, counted))

-- a block that was filled keeps its length
pub same_count : (n blocks : ℕ) (cuts names places filled : List ℕ) (b : ℕ) → IsDivision 0 n blocks cuts → b < blocks → length places ≡ n
    → filled ≡ replicate (length (between (slice_index cuts b) (slice_index cuts (b + 1)) places)) (slice_index names b)
    → length (put_mid (slice_index cuts b) (slice_index cuts (b + 1) - slice_index cuts b) places filled) ≡ n
same_count n blocks cuts names places filled b division inside counted is_filled =
    let first : ℕ = slice_index cuts b in
    let size : ℕ = slice_index cuts (b + 1) - first in
    let behind : List ℕ = post_of first size places in
    let whole : length (put_mid first size places filled) ≡ length (take first places) + length (filled ++ behind) = length-append (take first places) (filled ++ behind) in
    let rest : length behind ≡ length places - first - size = length-drop size (drop first places) ∙ ap (λ k. k - size) (length-drop first places) in
    omega (
      arith,
      whole,
      rest,
      length-append filled behind,
      length-take first places,
      rises n blocks cuts b division inside,
      stays n blocks cuts b division inside,
      counted,
      width n blocks cuts names places filled b division inside counted is_filled,
    )

-- the places up to the end of a block that was filled with its name
pub one_more_written : (n blocks : ℕ) (cuts names places filled : List ℕ) (b : ℕ) → IsDivision 0 n blocks cuts → b < blocks → length places ≡ n
    → filled ≡ replicate (length (between (slice_index cuts b) (slice_index cuts (b + 1)) places)) (slice_index names b)
    → ((k : ℕ) → k < slice_index cuts b → slice_index places k ≡ planned_pe cuts names k) → (k : ℕ) → k < slice_index cuts (b + 1)
    → slice_index (put_mid (slice_index cuts b) (slice_index cuts (b + 1) - slice_index cuts b) places filled) k ≡ planned_pe cuts names k
one_more_written n blocks cuts names places filled b division inside counted is_filled before k below =
    let first : ℕ = slice_index cuts b in
    let size : ℕ = slice_index cuts (b + 1) - first in
    let behind : List ℕ = post_of first size places in
    let block : ℕ = length (between first (slice_index cuts (b + 1)) places) in
    let long : length filled ≡ size = width n blocks cuts names places filled b division inside counted is_filled in
    let within : first ≤ length places = omega (arith, rises n blocks cuts b division inside, stays n blocks cuts b division inside, counted) in
    let front : length (take first places) ≡ first = omega (arith, length-take first places, within) in
    elim (cases_lt k first) [
      | inl earlier ↦
          get_or_append_left (take first places) (filled ++ behind) 0 k (omega (arith, earlier, front))
          ∙ get_or-take first places k 0 earlier
          ∙ before k earlier
      | inr later ↦
          get_or-append_right (take first places) (filled ++ behind) first k 0 front later
          ∙ get_or_append_left filled behind 0 (k - first) (omega (arith, below, later, long))
          ∙ ap (λ (xs : List ℕ). slice_index xs (k - first)) is_filled
          ∙ get_or-replicate block (k - first) (slice_index names b) 0
          (omega (arith, below, later, length-between places first (slice_index cuts (b + 1)) (omega (arith, stays n blocks cuts b division inside, counted))))
          ∙ sym (planned_in n blocks cuts names b k division inside later below)
    ]

-- the places up to the end of a block whose places are all its name
pub one_more_right : (n blocks : ℕ) (cuts names places : List ℕ) (b : ℕ) → IsDivision 0 n blocks cuts → b < blocks → length places ≡ n
    → All (λ place. place ≡ slice_index names b) (between (slice_index cuts b) (slice_index cuts (b + 1)) places)
    → ((k : ℕ) → k < slice_index cuts b → slice_index places k ≡ planned_pe cuts names k) → (k : ℕ) → k < slice_index cuts (b + 1)
    → slice_index places k ≡ planned_pe cuts names k
one_more_right n blocks cuts names places b division inside counted all before k below =
    let first : ℕ = slice_index cuts b in
    elim (cases_lt k first) [
      | inl earlier ↦ before k earlier
      | inr later ↦
          let there : k - first < length (between first (slice_index cuts (b + 1)) places) = omega (
            arith,
            length-between places first (slice_index cuts (b + 1))
                (omega (arith, stays n blocks cuts b division inside, counted)),
            stays n blocks cuts b division inside,
            counted,
            below,
            later,
          ) in
          let shifted : slice_index (between first (slice_index cuts (b + 1)) places) (k - first) ≡ slice_index places k = get_or-between
          places first (slice_index cuts (b + 1)) (k - first) 0 (omega (arith, below, later)) ∙ ap (slice_index places) (omega (arith, later)) in
          sym shifted ∙ All-get_or (λ place. place ≡ slice_index names b) (between first (slice_index cuts (b + 1)) places) (k - first) 0
          there all ∙ sym (planned_in n blocks cuts names b k division inside later below)
    ]

-- where all places are right, those of a block are all its name
pub all_of_block : (n blocks : ℕ) (cuts names places : List ℕ) (b : ℕ) → IsDivision 0 n blocks cuts → b < blocks → length places ≡ n
    → ((k : ℕ) → k < n → slice_index places k ≡ planned_pe cuts names k)
    → All (λ place. place ≡ slice_index names b) (between (slice_index cuts b) (slice_index cuts (b + 1)) places)
all_of_block n blocks cuts names places b division inside counted placed =
    let first : ℕ = slice_index cuts b in
    let end : ℕ = slice_index cuts (b + 1) in
    All-from_get_or (λ place. place ≡ slice_index names b) (between first end places) 0 (λ i there.
    let below : first + i < end = omega (
      arith,
      there,
      length-between places first end (omega (arith, stays n blocks cuts b division inside, counted)),
      stays n blocks cuts b division inside,
      rises n blocks cuts b division inside,
      counted,
    ) in
    get_or-between places first end i 0 (omega (arith, below))
    ∙ placed (first + i) (omega (arith, below, stays n blocks cuts b division inside))
    ∙ planned_in n blocks cuts names b (first + i) division inside (omega arith) below)
