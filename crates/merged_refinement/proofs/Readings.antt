-- Cuts read off a table one by one.
use Rattle.std.proofs.Common.{◌≡◌, ◌≢◌, ℕ, ◌+◌, ◌-◌, ◌<◌, ◌≤◌, max, List, length, set, slice_index, arith, sym, ◌∙◌, subst, inl, inr}
use Rattle.std.proofs.lemmas.Bool.{cases_eq}
use Rattle.std.proofs.lemmas.List.{get_or-set_other, get_or-set_same, length-set}
use Rattle.refinement_search.specs.Tables.{AreRead, IsLevel, IsLevelTo}

-- the cuts from one on are read
pub record AreReadFrom (blocks : ℕ) (present : List ℕ) (elements : ℕ) (start : ℕ → ℕ) (at : ℕ → ℕ → ℕ) (cuts : List ℕ) (b : ℕ) : Type 0 where
  pub counted : length cuts ≡ blocks + 1
  pub inside : b < blocks
  pub starts : slice_index cuts 0 ≡ 0
  pub ends : slice_index cuts blocks ≡ elements
  pub within : (k : ℕ) → b < k → k ≤ blocks → slice_index cuts k ≤ elements
  pub level : (k : ℕ) → b ≤ k → k + 1 < blocks → IsLevel (at (k + 1)) (slice_index present (k + 1)) (start (slice_index cuts (k + 1 + 1))) (slice_index cuts (k + 1))

pub read_none : (blocks : ℕ) (present : List ℕ) (elements : ℕ) (start : ℕ → ℕ) (at : ℕ → ℕ → ℕ) (cuts : List ℕ) → 0 < blocks
    → length cuts ≡ blocks + 1 → slice_index cuts 0 ≡ 0 → AreReadFrom blocks present elements start at (set cuts blocks elements) (blocks - 1)
read_none blocks present elements start at cuts some counted first =
    let last : slice_index (set cuts blocks elements) blocks ≡ elements = get_or-set_same cuts blocks elements 0 (omega arith) in
    record {
      counted = length-set cuts blocks elements ∙ counted;
      inside = omega arith;
      starts = get_or-set_other cuts blocks 0 elements 0 (omega arith) ∙ first;
      ends = last;
      within = λ k behind inside.
          let met : blocks ≡ k = omega arith in
          subst (λ n. slice_index (set cuts blocks elements) n ≤ elements) met (omega (arith, last));
      level = λ k from inside. absurd (omega arith);
    }

pub read_one : (blocks : ℕ) (present : List ℕ) (elements : ℕ) (start : ℕ → ℕ) (at : ℕ → ℕ → ℕ) (cuts : List ℕ) (b cut : ℕ)
    → AreReadFrom blocks present elements start at cuts b → 0 < b → cut ≤ elements
    → IsLevelTo (at b) (start (slice_index cuts (b + 1))) (max (slice_index present b) (start (slice_index cuts (b + 1)))) cut
    → AreReadFrom blocks present elements start at (set cuts b cut) (b - 1)
read_one blocks present elements start at cuts b cut h some small level =
    let here : slice_index (set cuts b cut) b ≡ cut = get_or-set_same cuts b cut 0 (omega (arith, h.counted, h.inside)) in
    let other : (k : ℕ) → k ≢ b → slice_index (set cuts b cut) k ≡ slice_index cuts k = λ k apart. get_or-set_other cuts b k cut 0 apart in
    record {
      counted = length-set cuts b cut ∙ h.counted;
      inside = omega (arith, h.inside);
      starts = other 0 (omega arith) ∙ h.starts;
      ends = other blocks (omega (arith, h.inside)) ∙ h.ends;
      within = λ k behind inside. elim (cases_eq k b) [
        | inl met ↦ subst (λ n. slice_index (set cuts b cut) n ≤ elements) (sym met) (omega (arith, here))
        | inr apart ↦ omega (arith, other k apart, h.within k (omega (arith, apart)) inside)
      ];
      level = λ k from inside. elim (cases_eq (k + 1) b) [
        | inl met ↦
            let next : slice_index (set cuts b cut) (b + 1) ≡ slice_index cuts (b + 1) = other (b + 1) (omega arith) in
            let there : IsLevelTo (at b) (start (slice_index (set cuts b cut) (b + 1)))
            (max (slice_index present b) (start (slice_index (set cuts b cut) (b + 1)))) (slice_index (set cuts b cut) b) = subst
            (λ n. IsLevelTo (at b) (start n) (max (slice_index present b) (start n)) (slice_index (set cuts b cut) b)) (sym next)
            (subst (λ n. IsLevelTo (at b) (start (slice_index cuts (b + 1)))
            (max (slice_index present b) (start (slice_index cuts (b + 1)))) n) (sym here) level) in
            subst (λ n. IsLevelTo (at n) (start (slice_index (set cuts b cut) (n + 1)))
            (max (slice_index present n) (start (slice_index (set cuts b cut) (n + 1)))) (slice_index (set cuts b cut) n)) (sym met) there
        | inr apart ↦
            let one : slice_index (set cuts b cut) (k + 1) ≡ slice_index cuts (k + 1) = other (k + 1) apart in
            let two : slice_index (set cuts b cut) (k + 1 + 1) ≡ slice_index cuts (k + 1 + 1) = other (k + 1 + 1) (omega (arith, from, apart)) in
            subst (λ n. IsLevelTo (at (k + 1)) (start (slice_index (set cuts b cut) (k + 1 + 1)))
            (max (slice_index present (k + 1)) (start (slice_index (set cuts b cut) (k + 1 + 1)))) n) (sym one)
            (subst (λ n. IsLevelTo (at (k + 1)) (start n) (max (slice_index present (k + 1)) (start n)) (slice_index cuts (k + 1)))
            (sym two) (h.level k (omega (arith, from, apart)) inside))
      ];
    }

pub read_all : (blocks : ℕ) (present : List ℕ) (elements : ℕ) (start : ℕ → ℕ) (at : ℕ → ℕ → ℕ) (cuts : List ℕ) (b : ℕ)
    → AreReadFrom blocks present elements start at cuts b → b ≡ 0 → AreRead blocks present elements start at cuts
read_all blocks present elements start at cuts b h none =
    record { counted = h.counted; starts = h.starts; ends = h.ends; level = λ k inside. h.level k (omega arith) inside }
