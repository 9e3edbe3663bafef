-- The places of rows, written one by one.
use Rattle.std.proofs.Common.{◌≡◌, ◌≢◌, ℕ, ◌+◌, ◌-◌, ◌<◌, ◌≤◌, max, List, length, set, slice_index, arith, sym, ◌∙◌, subst, inl, inr}
use Rattle.std.proofs.lemmas.Bool.{cases_eq}
use Rattle.std.proofs.lemmas.List.{get_or-set_other, get_or-set_same, length-set}
use Rattle.lb_certificates.specs.Chain.{IsDivision}
use Rattle.lb_certificates.proofs.Chains.{block_within}
use Rattle.refinement_search.specs.Spans.{AreFars, AreFarsFrom, AreNears}
use Rattle.refinement_search.specs.Tables.{AreSpans}

-- the first places up to that of one row
pub record AreNearsTo (present : List ℕ) (blocks : ℕ) (start : ℕ → ℕ) (near : List ℕ) (b : ℕ) : Type 0 where
  pub counted : length near ≡ blocks
  pub first : slice_index near 0 ≡ 0
  pub before : (k : ℕ) → k ≤ b → slice_index near k ≤ slice_index present k
  pub rises : (k : ℕ) → k + 1 ≤ b → slice_index near k ≤ slice_index near (k + 1)
  pub reached : (k : ℕ) → k + 1 ≤ b → start (slice_index near (k + 1)) ≤ slice_index near k

pub near_none : (present : List ℕ) (blocks : ℕ) (start : ℕ → ℕ) (near : List ℕ) → length near ≡ blocks → slice_index near 0 ≡ 0 → AreNearsTo present blocks start near 0
near_none present blocks start near counted first =
    record {
      counted = counted;
      first = first;
      before = λ k within.
          let same : 0 ≡ k = omega arith in
          subst (λ n. slice_index near n ≤ slice_index present n) same (omega (arith, first));
      rises = λ k within. absurd (omega arith);
      reached = λ k within. absurd (omega arith);
    }

pub near_more : (present : List ℕ) (blocks : ℕ) (start : ℕ → ℕ) (near : List ℕ) (b place : ℕ) → AreNearsTo present blocks start near b
    → b + 1 < blocks → slice_index near b ≤ place → place ≤ slice_index present (b + 1) → start place ≤ slice_index near b
    → AreNearsTo present blocks start (set near (b + 1) place) (b + 1)
near_more present blocks start near b place h inside onward to reached =
    let here : slice_index (set near (b + 1) place) (b + 1) ≡ place = get_or-set_same near (b + 1) place 0 (omega (arith, h.counted)) in
    let other : (k : ℕ) → k ≢ b + 1 → slice_index (set near (b + 1) place) k ≡ slice_index near k = λ k apart. get_or-set_other near (b + 1) k place 0 apart in
    record {
      counted = length-set near (b + 1) place ∙ h.counted;
      first = other 0 (omega arith) ∙ h.first;
      before = λ k within. elim (cases_eq k (b + 1)) [
        | inl met ↦ subst (λ n. slice_index (set near (b + 1) place) n ≤ slice_index present n) (sym met) (omega (arith, here))
        | inr apart ↦ omega (arith, other k apart, h.before k (omega (arith, apart)))
      ];
      rises = λ k within. elim (cases_eq k b) [
        | inl met ↦ subst (λ n. slice_index (set near (b + 1) place) n ≤ slice_index (set near (b + 1) place) (n + 1)) (sym met) (omega (arith, here, other b (omega arith)))
        | inr apart ↦ omega (arith, other k (omega arith), other (k + 1) (omega (arith, apart)), h.rises k (omega (arith, apart)))
      ];
      reached = λ k within. elim (cases_eq k b) [
        | inl met ↦ subst (λ n. start (slice_index (set near (b + 1) place) (n + 1)) ≤ slice_index (set near (b + 1) place) n) (sym met)
            (subst (λ y. start y ≤ slice_index (set near (b + 1) place) b) (sym here) (omega (arith, other b (omega arith))))
        | inr apart ↦
            let next : slice_index (set near (b + 1) place) (k + 1) ≡ slice_index near (k + 1) = other (k + 1) (omega (arith, apart)) in
            subst (λ y. start y ≤ slice_index (set near (b + 1) place) k) (sym next) (omega (arith, other k (omega arith), h.reached k (omega (arith, apart))))
      ];
    }

pub near_all : (present : List ℕ) (blocks : ℕ) (start : ℕ → ℕ) (near : List ℕ) (b : ℕ) → AreNearsTo present blocks start near b
    → b + 1 ≡ blocks → AreNears present blocks start (slice_index near)
near_all present blocks start near b h last =
    record {
      first = h.first;
      before = λ k inside. h.before k (omega arith);
      rises = λ k inside. h.rises k (omega arith);
      reached = λ k inside. h.reached k (omega arith);
    }

-- a present cut is a place
pub present_inside : (elements blocks : ℕ) (present : List ℕ) (b : ℕ) → IsDivision 0 elements blocks present → b < blocks → slice_index present b ≤ elements
present_inside elements blocks present b divides inside =
    let block = block_within elements blocks present b divides inside in omega (arith, block.0, block.1)

pub present_rises : (elements blocks : ℕ) (present : List ℕ) (b : ℕ) → IsDivision 0 elements blocks present → b + 1 < blocks → slice_index present b ≤ slice_index present (b + 1)
present_rises elements blocks present b divides inside = (block_within elements blocks present b divides (omega arith)).0

-- the last place of the last row
pub far_none : (present : List ℕ) (blocks elements : ℕ) (start : ℕ → ℕ) (far : List ℕ) (place : ℕ) → 0 < blocks → length far ≡ blocks
    → IsDivision 0 elements blocks present → start elements ≤ elements → place ≡ max (slice_index present (blocks - 1)) (start elements)
    → AreFarsFrom present blocks elements start (slice_index (set far (blocks - 1) place)) (blocks - 1)
far_none present blocks elements start far place some counted divides small is =
    let here : slice_index (set far (blocks - 1) place) (blocks - 1) ≡ place = get_or-set_same far (blocks - 1) place 0 (omega arith) in
    let present_in : slice_index present (blocks - 1) ≤ elements = present_inside elements blocks present (blocks - 1) divides (omega arith) in
    let at_last : (k : ℕ) → blocks - 1 ≤ k → k < blocks → slice_index (set far (blocks - 1) place) k ≡ place = λ k from inside.
    let same : blocks - 1 ≡ k = omega arith in
    subst (λ n. slice_index (set far (blocks - 1) place) n ≡ place) same here in
    record {
      behind = λ k from inside.
          let same : blocks - 1 ≡ k = omega arith in
          subst (λ n. slice_index present n ≤ slice_index (set far (blocks - 1) place) n) same (omega (arith, here, is));
      inside = λ k from inside. omega (arith, at_last k from inside, is, present_in, small);
      reached = λ k from inside. absurd (omega arith);
      last = omega (arith, here, is);
    }

pub far_one : (present : List ℕ) (blocks elements : ℕ) (start : ℕ → ℕ) (far : List ℕ) (b place : ℕ) → length far ≡ blocks
    → IsDivision 0 elements blocks present → ((x : ℕ) → x ≤ elements → start x ≤ x) → 0 < b → b < blocks
    → AreFarsFrom present blocks elements start (slice_index far) b → place ≡ max (slice_index present (b - 1)) (start (slice_index far b))
    → AreFarsFrom present blocks elements start (slice_index (set far (b - 1) place)) (b - 1)
far_one present blocks elements start far b place counted divides small some within h is =
    let one : ℕ = b - 1 in
    let here : slice_index (set far one place) one ≡ place = get_or-set_same far one place 0 (omega arith) in
    let other : (k : ℕ) → k ≢ one → slice_index (set far one place) k ≡ slice_index far k = λ k apart. get_or-set_other far one k place 0 apart in
    let far_in : slice_index far b ≤ elements = h.inside b (omega arith) within in
    let present_in : slice_index present one ≤ elements = present_inside elements blocks present one divides (omega arith) in
    record {
      behind = λ k from inside. elim (cases_eq k one) [
        | inl met ↦ subst (λ n. slice_index present n ≤ slice_index (set far one place) n) (sym met) (omega (arith, here, is))
        | inr apart ↦ omega (arith, other k apart, h.behind k (omega (arith, apart)) inside)
      ];
      inside = λ k from inside. elim (cases_eq k one) [
        | inl met ↦ subst (λ n. slice_index (set far one place) n ≤ elements) (sym met) (omega (arith, here, is, present_in, small (slice_index far b) far_in, far_in))
        | inr apart ↦ omega (arith, other k apart, h.inside k (omega (arith, apart)) inside)
      ];
      reached = λ k from inside. elim (cases_eq k one) [
        | inl met ↦
            let next : slice_index (set far one place) b ≡ slice_index far b = other b (omega arith) in
            let same : one + 1 ≡ b = omega arith in
            let there : start (slice_index (set far one place) b) ≤ slice_index (set far one place) one = subst
            (λ y. start y ≤ slice_index (set far one place) one) (sym next) (omega (arith, here, is)) in
            subst (λ n. start (slice_index (set far one place) (n + 1)) ≤ slice_index (set far one place) n) (sym met)
            (subst (λ n. start (slice_index (set far one place) n) ≤ slice_index (set far one place) one) (sym same) there)
        | inr apart ↦
            let next : slice_index (set far one place) (k + 1) ≡ slice_index far (k + 1) = other (k + 1) (omega arith) in
            subst (λ y. start y ≤ slice_index (set far one place) k) (sym next) (omega (arith, other k apart, h.reached k (omega (arith, apart)) inside))
      ];
      last = omega (arith, other (blocks - 1) (omega arith), h.last);
    }

-- the first and the last places together
pub spans_of : (present : List ℕ) (blocks elements : ℕ) (start near far : ℕ → ℕ) → AreNears present blocks start near
    → AreFars present blocks elements start far → AreSpans present blocks elements start near far
spans_of present blocks elements start near far nears fars =
    record {
      first = nears.first;
      near_before = nears.before;
      near_rises = nears.rises;
      near_reached = nears.reached;
      far_behind = λ b inside. fars.behind b (omega arith) inside;
      far_inside = λ b inside. fars.inside b (omega arith) inside;
      far_reached = λ b inside. fars.reached b (omega arith) inside;
      far_last = fars.last;
    }
