-- The elements of the PEs, one after another.
use Rattle.std.proofs.Common.{◌≡◌, ℕ, ◌+◌, ◌^◌, ◌<◌, ◌≤◌, inl, inr, eqb, List, length, set, slice_index, take, arith, subst, sym}
use Rattle.std.proofs.lemmas.Bool.Decides.{eqb_tells}
use Rattle.std.proofs.lemmas.List.{get_or-set_other, get_or-set_same, length-set, length-take-le}
use Rattle.std.proofs.lemmas.List.Sums.{count_by-le-length, count_by_more_no, count_by_more_yes}
use Rattle.chare_index.specs.declared.limits.TheConstants.Limits.{ELEMENTS}
use Rattle.load_report.specs.Figures.{elements_of}

-- the first i elements are counted on their PEs
abbrev pub AreCounted : List ℕ → ℕ → List ℕ → Type 0
AreCounted places i counts =
    (p : ℕ) → p < length counts → slice_index counts p ≡ elements_of (take i places) p

-- the number with one more element fits its 32 bits
pub next_count_fits : (places counts : List ℕ) (i p : ℕ) → AreCounted places i counts → length places ≤ ELEMENTS → i < length places
    → p < length counts → slice_index counts p + 1 < 2 ^ 32
next_count_fits places counts i p counted few inside on =
    omega (arith, counted p on, count_by-le-length (λ place. eqb place p) (take i places), length-take-le i places (omega arith))

-- one more is counted
pub count_added : (places counts : List ℕ) (i : ℕ) → AreCounted places i counts → i < length places → slice_index places i < length counts
    → AreCounted places (i + 1) (set counts (slice_index places i) (slice_index counts (slice_index places i) + 1))
count_added places counts i counted next on p inside =
    let place : ℕ = slice_index places i in
    let count : ℕ = slice_index counts place + 1 in
    let before = counted p (omega (arith, inside, length-set counts place count)) in
    elim (eqb_tells place p) [
      | inl here ↦
          let at : slice_index (set counts place count) p ≡ slice_index counts p + 1 = subst
          (λ q. slice_index (set counts place count) q ≡ slice_index counts q + 1) here.1 (get_or-set_same counts place count 0 on) in
          omega (arith, at, before, count_by_more_yes (λ place. eqb place p) places i 0 next here.0)
      | inr other ↦
          omega (arith, get_or-set_other counts place p count 0 (λ e. other.1 (sym e)), before, count_by_more_no (λ place. eqb place p) places i 0 next other.0)
    ]
