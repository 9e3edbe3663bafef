-- Sets whose words stand one set after the other.
use Rattle.std.proofs.Common.{◌≡◌, ◌≢◌, ℕ, zero, suc, ◌+◌, ◌*◌, ◌/◌, ◌%◌, ◌^◌, ◌<◌, ◌≤◌, inl, inr, List, [], ◌∷◌, length, take, drop, set, slice_index, slice_index_or, bit_or, w64, arith, ap, sym, ◌∙◌, refl}
use Rattle.std.specs.Int.{bit_at}
use Rattle.std.proofs.lemmas.Bool.{cases_lt}
use Rattle.std.proofs.lemmas.List.{get_or-take, get_or-drop, get_or_past, length-drop, length-take, length-take-le, take-set-le, drop-drop, drop-set-lt, drop-set-add}
use Rattle.std.proofs.Math.Nat.{mul-le-mul_right}
use Rattle.std.proofs.lemmas.Nat.Bits.{bit_at_set_same, bit_at_set_other}
use Rattle.block_assignment.specs.Least.{member, may_have, rows, AreRows}
use Rattle.block_assignment.proofs.BlockBits.{no_member, written_here, written_others}

-- there are this many sets
pub rows_counted : (width count : ℕ) (words : List ℕ) → length (rows width count words) ≡ count
rows_counted width zero words = refl
rows_counted width (suc count) words = ap suc (rows_counted width count (drop width words))

-- the words of one of them
pub row_is : (width count : ℕ) (words : List ℕ) (p : ℕ) → p < count → slice_index_or (rows width count words) p [] ≡ take width (drop (p * width) words)
row_is width zero words p inside = absurd (omega (arith, inside))
row_is width (suc count) words zero inside =
    let place : 0 ≡ 0 * width = omega arith in
    ap (λ n. take width (drop n words)) place
row_is width (suc count) words (suc p) inside =
    let place : width + p * width ≡ suc p * width = omega arith in
    row_is width count (drop width words) p (omega (arith, inside)) ∙ ap (take width) (drop-drop (p * width) width words ∙ ap (λ n. drop n words) place)

-- its words are behind those of the sets before it
pub row_inside : (width count p : ℕ) → p < count → p * width + width ≤ count * width
row_inside width count p inside = omega (arith, mul-le-mul_right width inside)

-- and this many
pub row_counted : (width count : ℕ) (words : List ℕ) (p : ℕ) → AreRows width count words → p < count → length (slice_index_or (rows width count words) p []) ≡ width
row_counted width count words p flat inside =
    ap length (row_is width count words p inside) ∙ length-take-le width (drop (p * width) words)
    (omega (arith, length-drop (p * width) words, flat.counted, row_inside width count p inside))

-- one word of a set
pub word_of_row : (width count : ℕ) (words : List ℕ) (p i : ℕ) → p < count → i < width
    → slice_index (slice_index_or (rows width count words) p []) i ≡ slice_index words (p * width + i)
word_of_row width count words p i inside within =
    ap (λ row. slice_index row i) (row_is width count words p inside) ∙ get_or-take width (drop (p * width) words) i 0 within ∙ get_or-drop (p * width) words i 0

-- words that are all 0 make sets of no block
pub none_in_rows : (width count : ℕ) (words : List ℕ) (b p : ℕ) → ((w : ℕ) → w < length words → slice_index words w ≡ 0) → p < count → may_have (rows width count words) b p ≡ 0
none_in_rows width count words b p none inside =
    no_member (slice_index_or (rows width count words) p []) (λ i within. word i within) b
  where
    each : (w : ℕ) → slice_index words w ≡ 0
    each w = elim (cases_lt w (length words)) [ inl within ↦ none w within | inr past ↦ get_or_past words w 0 past ]

    word : (i : ℕ) → i < length (slice_index_or (rows width count words) p []) → slice_index (slice_index_or (rows width count words) p []) i ≡ 0
    word i within =
        let short : i < width = omega (arith, within, ap length (row_is width count words p inside), length-take width (drop (p * width) words)) in
        word_of_row width count words p i inside short ∙ each (p * width + i)

-- a word that is written is written in its set
take_written : (width i x : ℕ) (words : List ℕ) → i < width → take width (set words i x) ≡ set (take width words) i x
take_written zero i x words inside = absurd (omega (arith, inside))
take_written (suc width) i x [] inside = refl
take_written (suc width) zero x (word ∷ words) inside = refl
take_written (suc width) (suc i) x (word ∷ words) inside = ap (λ rest. word ∷ rest) (take_written width i x words (omega (arith, inside)))

rows_written : (width count : ℕ) (words : List ℕ) (p i x : ℕ) → p < count → i < width
    → rows width count (set words (p * width + i) x) ≡ set (rows width count words) p (set (slice_index_or (rows width count words) p []) i x)
rows_written width zero words p i x inside within = absurd (omega (arith, inside))
rows_written width (suc count) words zero i x inside within =
    let place : 0 * width + i ≡ i = omega arith in
    ap (λ n. rows width (suc count) (set words n x)) place
    ∙ ap (λ row. row ∷ rows width count (drop width (set words i x))) (take_written width i x words within)
    ∙ ap (λ rest. set (take width words) i x ∷ rows width count rest) (drop-set-lt width words i x within)
rows_written width (suc count) words (suc p) i x inside within =
    let place : suc p * width + i ≡ width + (p * width + i) = omega arith in
    let first : take width (set words (suc p * width + i) x) ≡ take width words = ap (λ n. take width (set words n x)) place
    ∙ take-set-le width words (width + (p * width + i)) x (omega arith) in
    let rest : drop width (set words (suc p * width + i) x) ≡ set (drop width words) (p * width + i) x = ap
    (λ n. drop width (set words n x)) place ∙ drop-set-add width words (p * width + i) x in
    ap (λ row. row ∷ rows width count (drop width (set words (suc p * width + i) x))) first
    ∙ ap (λ others. take width words ∷ rows width count others) rest
    ∙ ap (λ others. take width words ∷ others) (rows_written width count (drop width words) p i x (omega (arith, inside)) within)

-- the set of PE p has block b too
pub record IsJoined (old : List (List ℕ)) (p b : ℕ) (new : List (List ℕ)) : Type 0 where
  pub now : List ℕ
  pub put : new ≡ set old p now
  pub here : member now b ≡ 1
  pub others : (k : ℕ) → k ≢ b → member now k ≡ member (slice_index_or old p []) k

pub joined : (width count : ℕ) (words next : List ℕ) (p b : ℕ) → AreRows width count words → p < count → b < count
    → next ≡ set words (p * width + b / 64) (bit_or (slice_index words (p * width + b / 64)) (1 * 2 ^ (b % 64) % 2 ^ 64))
    → IsJoined (rows width count words) p b (rows width count next)
joined width count words next p b flat inside block written =
    let row : List ℕ = slice_index_or (rows width count words) p [] in
    let word : ℕ = bit_or (slice_index words (p * width + b / 64)) (1 * 2 ^ (b % 64) % 2 ^ 64) in
    let within : b / 64 < width = omega (arith, block, flat.wide) in
    let in_row : b / 64 < length row = omega (arith, within, row_counted width count words p flat inside) in
    let read : slice_index row (b / 64) ≡ slice_index words (p * width + b / 64) = word_of_row width count words p (b / 64) inside within in
    record {
      now = set row (b / 64) word;
      put = ap (rows width count) written ∙ rows_written width count words p (b / 64) word inside within;
      here = written_here row b word in_row ∙ bit_at_set_same w64 (slice_index words (p * width + b / 64)) (b % 64) (omega arith);
      others = λ k other. written_others row b word k in_row other
          (λ i low apart. bit_at_set_other w64 (slice_index words (p * width + b / 64)) (b % 64) (omega arith) i apart ∙ ap (λ x. bit_at x i) (sym read));
    }
