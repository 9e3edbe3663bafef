-- Sets of blocks by the bits of their words.
use Rattle.std.proofs.Common.{◌≡◌, ◌≢◌, ℕ, ◌+◌, ◌*◌, ◌/◌, ◌%◌, ◌^◌, ◌<◌, ◌≤◌, min, inl, inr, true, false, not, nat_eq, List, MatchBool, length, set, slice_index, bit_and, arith, ap, ◌∙◌, w64}
use Rattle.std.specs.Int.{bit_at, trailing_zeros}
use Rattle.std.proofs.lemmas.Bool.{cases_eq, cases_lt, eq-eqb, ne_eqb}
use Rattle.std.proofs.lemmas.List.{get_or-set_same, get_or-set_other, get_or_past}
use Rattle.std.proofs.lemmas.Nat.{one_shl, pow_pos}
use Rattle.std.proofs.lemmas.Nat.Bits.{and_pow, bit_at-lt, bit_at-zero, bit_at_and, bit_at-trailing_zeros}
use Rattle.block_assignment.specs.Least.{member}

-- a word is written, and holds the bit of block b
pub written_here : (words : List ℕ) (b word : ℕ) → b / 64 < length words → member (set words (b / 64) word) b ≡ bit_at word (b % 64)
written_here words b word inside = ap (λ x. bit_at x (b % 64)) (get_or-set_same words (b / 64) word 0 inside)

-- and the other bits are as they were
pub written_others : (words : List ℕ) (b word k : ℕ) → b / 64 < length words → k ≢ b
    → ((i : ℕ) → i < 64 → i ≢ b % 64 → bit_at word i ≡ bit_at (slice_index words (b / 64)) i) → member (set words (b / 64) word) k ≡ member words k
written_others words b word k inside other same =
    elim (cases_eq (k / 64) (b / 64)) [
      | inl here ↦
          let apart : k % 64 ≢ b % 64 = λ e. other (omega (arith, here, e)) in
          ap (λ w. bit_at (slice_index (set words (b / 64) word) w) (k % 64)) here
          ∙ ap (λ x. bit_at x (k % 64)) (get_or-set_same words (b / 64) word 0 inside) ∙ same (k % 64) (omega arith) apart
          ∙ ap (λ w. bit_at (slice_index words w) (k % 64)) (omega (arith, here))
      | inr away ↦ ap (λ x. bit_at x (k % 64)) (get_or-set_other words (b / 64) (k / 64) word 0 away)
    ]

-- the test of one bit
pub bit_tested : (word k : ℕ) → k < 64 → MatchBool (not (nat_eq (bit_and word (1 * 2 ^ k % 2 ^ 64)) 0)) (bit_at word k ≡ 1) (bit_at word k ≡ 0)
bit_tested word k small =
    let read : bit_and word (1 * 2 ^ k % 2 ^ 64) ≡ bit_at word k * 2 ^ k = ap (bit_and word) (one_shl k 64 small) ∙ and_pow word k in
    elim (cases_eq (bit_at word k) 0) [
      | inl none ↦
          let e : nat_eq (bit_and word (1 * 2 ^ k % 2 ^ 64)) 0 ≡ true = eq-eqb _ 0 (omega (arith, read, ap (λ x. x * 2 ^ k) none)) in
          rw e none
      | inr some ↦
          let one : bit_at word k ≡ 1 = omega (arith, some, bit_at-lt word k) in
          let e : nat_eq (bit_and word (1 * 2 ^ k % 2 ^ 64)) 0 ≡ false = ne_eqb _ 0 (λ zero. absurd (omega (arith, read, zero, ap (λ x. x * 2 ^ k) one, pow_pos k))) in
          rw e one
    ]

-- behind its words a set has no block
pub no_word_behind : (set : List ℕ) (b : ℕ) → length set ≤ b / 64 → member set b ≡ 0
no_word_behind set b past = ap (λ x. bit_at x (b % 64)) (get_or_past set (b / 64) 0 past) ∙ bit_at-zero (b % 64)

-- words with no bit in common
none_in_word : (one other : List ℕ) (b : ℕ) → bit_and (slice_index one (b / 64)) (slice_index other (b / 64)) ≡ 0 → member one b ≡ 1 → member other b ≡ 0
none_in_word one other b none has =
    let both = bit_at_and (slice_index one (b / 64)) (slice_index other (b / 64)) (b % 64) in
    let zero = ap (λ x. bit_at x (b % 64)) none ∙ bit_at-zero (b % 64) in
    omega (arith, both, zero, has)

-- sets with no bit in common in the words that both have
pub none_common : (one other : List ℕ) (words : ℕ) → words ≡ min (length one) (length other)
    → ((w : ℕ) → w < words → bit_and (slice_index one w) (slice_index other w) ≡ 0) → (b : ℕ) → member one b ≡ 1 → member other b ≡ 0
none_common one other words counted none b has =
    elim (cases_lt (b / 64) (length one)) [
      | inr past ↦ absurd (omega (arith, has, no_word_behind one b past))
      | inl inside ↦ elim (cases_lt (b / 64) (length other)) [
        | inr past ↦ no_word_behind other b past
        | inl within ↦ none_in_word one other b (none (b / 64) (omega (arith, counted, inside, within))) has
      ]
    ]

-- the lowest bit that two words have in common
pub lowest_common : (one other : List ℕ) (w : ℕ) → w < length one → let both = bit_and (slice_index one w) (slice_index other w) in 0 < both
    → both < 2 ^ 64 → let b = w * 64 + trailing_zeros w64 both in (b < 64 * length one) × (member one b ≡ 1) × (member other b ≡ 1)
lowest_common one other w small some fits =
    let both : ℕ = bit_and (slice_index one w) (slice_index other w) in
    let lowest = bit_at-trailing_zeros w64 both some fits in
    let t : ℕ = trailing_zeros w64 both in
    let word : (w * 64 + t) / 64 ≡ w = omega (arith, lowest.0) in
    let bit : (w * 64 + t) % 64 ≡ t = omega (arith, lowest.0) in
    let each = bit_at_and (slice_index one w) (slice_index other w) t in
    let first : bit_at (slice_index one w) t ≡ 1 = omega (arith, each, lowest.1, bit_at-lt (slice_index one w) t, bit_at-lt (slice_index other w) t) in
    let second : bit_at (slice_index other w) t ≡ 1 = omega (arith, each, lowest.1, bit_at-lt (slice_index one w) t, bit_at-lt (slice_index other w) t) in
    (omega (arith, lowest.0, small), rw (word, bit) first, rw (word, bit) second)

-- the set of no block
pub no_member : (words : List ℕ) → ((w : ℕ) → w < length words → slice_index words w ≡ 0) → (b : ℕ) → member words b ≡ 0
no_member words none b =
    elim (cases_lt (b / 64) (length words)) [
      | inr past ↦ no_word_behind words b past
      | inl inside ↦ ap (λ x. bit_at x (b % 64)) (none (b / 64) inside) ∙ bit_at-zero (b % 64)
    ]
