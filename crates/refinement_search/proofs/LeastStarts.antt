-- The least starts of blocks, written one by one.
use Rattle.std.proofs.Common.{ℕ, ◌+◌, ◌<◌, ◌≤◌, List, length, set, slice_index, arith, sym, subst, inl, inr}
use Rattle.std.proofs.lemmas.Bool.{cases_eq}
use Rattle.std.proofs.lemmas.List.{get_or-set_other, get_or-set_same}
use Rattle.chain_refinement.specs.Walks.{IsLeastStart, IsWindow}

-- the starts written so far
abbrev pub AreStartsTo : List ℕ → ℕ → ℕ → List ℕ → Type 0
AreStartsTo loads limit end starts = (x : ℕ) → x ≤ end → IsLeastStart loads x limit (slice_index starts x)

pub starts_more : (loads : List ℕ) (limit end start weight : ℕ) (starts : List ℕ) → AreStartsTo loads limit end starts
    → IsWindow loads (end + 1) limit start weight → end + 1 < length starts → AreStartsTo loads limit (end + 1) (set starts (end + 1) start)
starts_more loads limit end start weight starts before window room x inside =
    elim (cases_eq x (end + 1)) [
      | inl met ↦
          let read = get_or-set_same starts (end + 1) start 0 room in
          subst (λ n. IsLeastStart loads n limit (slice_index (set starts (end + 1) start) n)) (sym met)
          (subst (λ s. IsLeastStart loads (end + 1) limit s) (sym read) window.start_is)
      | inr apart ↦
          let read = get_or-set_other starts (end + 1) x start 0 apart in
          subst (λ s. IsLeastStart loads x limit s) (sym read) (before x (omega (arith, apart)))
    ]
