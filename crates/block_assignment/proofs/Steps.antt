-- What one more step of a loop puts down.
use Rattle.std.proofs.Common.{◌≡◌, ◌≢◌, ℕ, ◌+◌, ◌-◌, ◌<◌, ◌≤◌, ◌↔◌, inl, inr, cond, List, [], set, length, length-set, get_or, slice_index, ℤ, pos, neg_ℤ, ◌-ℤ◌, to_z, of_z, w64, arith, ap, sym, subst, ◌∙◌}
use Rattle.std.proofs.lemmas.Bool.{cases_eq, eq-eqb, ne_eqb}
use Rattle.std.proofs.lemmas.Int.{to_z-of_z}
use Rattle.std.proofs.lemmas.List.{get_or-set_same, get_or-set_other}
use Rattle.std.proofs.lemmas.List.Sums.{sum_by_more}
use Rattle.lb_certificates.specs.Naming.{moved_bytes, price_at}
use Rattle.lb_certificates.proofs.BlockCosts.{Stands, taken_off}
use Rattle.block_assignment.specs.Least.{member, may_have}
use Rattle.block_assignment.specs.declared.limits.TheConstants.MatrixLimits.{BYTES}

-- one more price
pub price_put : (prices : List ℤ) (i : ℕ) (price : ℕ → ℤ) (put : ℤ) → i < length prices → put ≡ price i
    → ((k : ℕ) → k < i → price_at prices k ≡ price k) → (k : ℕ) → k < i + 1 → price_at (set prices i put) k ≡ price k
price_put prices i price put inside is before k past =
    elim (cases_eq k i) [
      | inl here ↦ ap (λ m. price_at (set prices i put) m) here ∙ get_or-set_same prices i put (pos 0) inside ∙ is ∙ ap price (sym here)
      | inr other ↦ get_or-set_other prices i k put (pos 0) other ∙ before k (omega (arith, past, other))
    ]

-- a small number is taken from 0
pub below_0 : (n : ℕ) → n ≤ BYTES → to_z w64 (of_z w64 (pos 0 -ℤ to_z w64 n)) ≡ neg_ℤ (pos n)
below_0 n small = grind (arith, to_z-of_z)

-- the set that is put down is the one there
pub put_here : (takers next : List (List ℕ)) (now : List ℕ) (i : ℕ) → i < length takers → next ≡ set takers i now → (k : ℕ) → may_have next k i ≡ member now k
put_here takers next now i inside written k =
    ap (λ t. may_have t k i) written ∙ ap (λ s. member s k) (get_or-set_same takers i now [] inside)

-- and the other sets are as they were
pub put_others : (takers next : List (List ℕ)) (now : List ℕ) (i : ℕ) → next ≡ set takers i now → (k p : ℕ) → p ≢ i → may_have next k p ≡ may_have takers k p
put_others takers next now i written k p other =
    ap (λ t. may_have t k p) written ∙ ap (λ s. member s k) (get_or-set_other takers i p now [] other)

-- where one block is added, the others are in the same sets
pub put_apart : (takers next : List (List ℕ)) (now : List ℕ) (i b : ℕ) → i < length takers → next ≡ set takers i now
    → ((k : ℕ) → k ≢ b → member now k ≡ member (get_or takers i []) k) → (k p : ℕ) → k ≢ b → may_have next k p ≡ may_have takers k p
put_apart takers next now i b inside written same k p other =
    elim (cases_eq p i) [
      | inl here ↦ subst (λ q. may_have next k q ≡ may_have takers k q) (sym here) (put_here takers next now i inside written k ∙ same k other)
      | inr away ↦ put_others takers next now i written k p away
    ]

-- one more PE of which it is known whether a block may have it
pub known_more : (takers next : List (List ℕ)) (b i : ℕ) (P : ℕ → Type 0) → ((p : ℕ) → p < i → (may_have takers b p ≡ 1) ↔ P p)
    → ((p : ℕ) → p ≢ i → may_have next b p ≡ may_have takers b p) → (may_have next b i ≡ 1) ↔ P i → (p : ℕ) → p < i + 1 → (may_have next b p ≡ 1) ↔ P p
known_more takers next b i P before same here p past =
    elim (cases_eq p i) [
      | inl e ↦ subst (λ q. (may_have next b q ≡ 1) ↔ P q) (sym e) here
      | inr other ↦
          let known = before p (omega (arith, past, other)) in
          let kept = same p other in
          (λ one. known.0 (sym kept ∙ one), λ holds. kept ∙ known.1 holds)
    ]

-- one more block of which it is known whether it may have each PE
pub all_known_more : (takers next : List (List ℕ)) (b n : ℕ) (P : ℕ → ℕ → Type 0)
    → ((k p : ℕ) → k < b → p < n → (may_have takers k p ≡ 1) ↔ P k p) → ((k p : ℕ) → k ≢ b → may_have next k p ≡ may_have takers k p)
    → ((p : ℕ) → p < n → (may_have next b p ≡ 1) ↔ P b p) → (k p : ℕ) → k < b + 1 → p < n → (may_have next k p ≡ 1) ↔ P k p
all_known_more takers next b n P before same here k p past inside =
    elim (cases_eq k b) [
      | inl e ↦ subst (λ j. (may_have next j p ≡ 1) ↔ P j p) (sym e) (here p inside)
      | inr other ↦
          let known = before k p (omega (arith, past, other)) inside in
          let kept = same k p other in
          (λ one. known.0 (sym kept ∙ one), λ holds. kept ∙ known.1 holds)
    ]

-- an element that stands on a PE moves no byte there
stays : (size : ℕ × ℕ) (p : ℕ) → size.1 ≡ p → moved_bytes size p ≡ 0
stays size p e = ap (λ t. cond t 0 size.0) (eq-eqb _ _ e)

-- and all its bytes to each other PE
moves : (size : ℕ × ℕ) (p : ℕ) → size.1 ≢ p → moved_bytes size p ≡ size.0
moves size p e = ap (λ t. cond t 0 size.0) (ne_eqb _ _ e)

-- the bytes of one more element are taken off where it stands
pub taken_there : (elements : List (ℕ × ℕ)) (i : ℕ) (row next : List ℕ) (place size : ℕ) (d : ℕ × ℕ) → Stands elements i row
    → i < length elements → d ≡ get_or elements i d → place ≡ d.1 → size ≡ d.0 → place < length row
    → next ≡ set row place (get_or row place 0 - size) → Stands elements (i + 1) next
taken_there elements i row next place size d stands before item at bytes inside written p here =
    let element : ℕ × ℕ = get_or elements i d in
    let sums = sum_by_more (λ (s : ℕ × ℕ). s.0) elements i d before in
    let moved = sum_by_more (λ (s : ℕ × ℕ). moved_bytes s p) elements i d before in
    let long : length next ≡ length row = ap length written ∙ length-set row place _ in
    let old = stands p (omega (arith, here, long)) in
    let size_is : size ≡ element.0 = bytes ∙ ap (λ (s : ℕ × ℕ). s.0) item in
    let place_is : place ≡ element.1 = at ∙ ap (λ (s : ℕ × ℕ). s.1) item in
    elim (cases_eq p place) [
      | inl same ↦
          let put : slice_index next p ≡ slice_index row place - size = ap (λ (r : List ℕ). slice_index r p) written
          ∙ ap (λ m. slice_index (set row place (get_or row place 0 - size)) m) same ∙ get_or-set_same row place _ 0 inside in
          let none = stays element p (sym place_is ∙ sym same) in
          omega (arith, put, none, sums, moved, old, size_is, ap (λ m. slice_index row m) same, taken_off elements i row place d stands inside before)
      | inr other ↦
          let kept : slice_index next p ≡ slice_index row p = ap (λ (r : List ℕ). slice_index r p) written ∙ get_or-set_other row place p _ 0 other in
          let all = moves element p (λ e. other (sym e ∙ sym place_is)) in
          omega (arith, kept, all, sums, moved, old)
    ]

-- and nowhere where it stands on none of these PEs
pub taken_nowhere : (elements : List (ℕ × ℕ)) (i : ℕ) (row next : List ℕ) (place : ℕ) (d : ℕ × ℕ) → Stands elements i row
    → i < length elements → d ≡ get_or elements i d → place ≡ d.1 → length row ≤ place → next ≡ row → Stands elements (i + 1) next
taken_nowhere elements i row next place d stands before item at outside same p here =
    let element : ℕ × ℕ = get_or elements i d in
    let sums = sum_by_more (λ (s : ℕ × ℕ). s.0) elements i d before in
    let moved = sum_by_more (λ (s : ℕ × ℕ). moved_bytes s p) elements i d before in
    let inside : p < length row = omega (arith, here, ap length same) in
    let place_is : place ≡ element.1 = at ∙ ap (λ (s : ℕ × ℕ). s.1) item in
    let all = moves element p (λ e. absurd (omega (arith, e, place_is, inside, outside))) in
    omega (arith, ap (λ (r : List ℕ). slice_index r p) same, all, sums, moved, stands p inside)
