-- The loads of the PEs, element by element.
use Rattle.std.proofs.Common.{◌≡◌, ◌≢◌, ℕ, zero, suc, ◌+◌, ◌*◌, ◌^◌, ◌<◌, ◌≤◌, inl, inr, max, min, List, length, set, slice_index, arith, ap, refl, subst, sym, ◌∙◌, add-one}
use Rattle.std.specs.List.{All}
use Rattle.std.proofs.lemmas.Bool.{cases_eq}
use Rattle.std.proofs.lemmas.Bool.Decides.{nat_tests}
use Rattle.std.proofs.lemmas.List.{get_or-set_other, get_or-set_same, length-set}
use Rattle.std.proofs.Math.Nat.{mul-le-mul_right}
use Rattle.chare_index.specs.declared.limits.TheConstants.Limits.{LOAD}
use Rattle.lb_certificates.specs.Naming.{total}
use Rattle.lb_snapshot.specs.Measured.{IsLoads}
use Rattle.load_report.specs.Figures.{greatest, least, load_at}

pub total_more : (n : ℕ) (f : ℕ → ℕ) → total (n + 1) f ≡ total n f + f n
total_more n f = rw (add-one n) refl

pub greatest_more : (n : ℕ) (f : ℕ → ℕ) → greatest (n + 1) f ≡ max (greatest n f) (f n)
greatest_more n f = rw (add-one n) refl

pub least_more : (m n : ℕ) (f : ℕ → ℕ) → least m (n + 1) f ≡ min (least m n f) (f n)
least_more m n f = rw (add-one n) refl

-- functions that agree below n have the same greatest and the same least value there
pub greatest_same : (n : ℕ) (f g : ℕ → ℕ) → ((i : ℕ) → i < n → f i ≡ g i) → greatest n f ≡ greatest n g
greatest_same zero f g same = refl
greatest_same (suc n) f g same =
    ap (λ m. max m (f n)) (greatest_same n f g (λ i inside. same i (omega arith))) ∙ ap (λ m. max (greatest n g) m) (same n (omega arith))

pub least_same : (m n : ℕ) (f g : ℕ → ℕ) → ((i : ℕ) → i < n → f i ≡ g i) → least m n f ≡ least m n g
least_same m zero f g same = refl
least_same m (suc n) f g same =
    ap (λ k. min k (f n)) (least_same m n f g (λ i inside. same i (omega arith))) ∙ ap (λ k. min (least m n g) k) (same n (omega arith))

-- an element has a load where it is placed, and nowhere else
pub load_here : (loads places : List ℕ) (p i : ℕ) → slice_index places i ≡ p → load_at loads places p i ≡ slice_index loads i
load_here loads places p i here = grind (arith, nat_tests)

pub load_elsewhere : (loads places : List ℕ) (p i : ℕ) → slice_index places i ≢ p → load_at loads places p i ≡ 0
load_elsewhere loads places p i elsewhere = grind (arith, nat_tests)

load_small : (loads places : List ℕ) (p i : ℕ) → All (λ units. units ≤ LOAD) loads → i < length loads → load_at loads places p i ≤ LOAD
load_small loads places p i small inside =
    elim (cases_eq (slice_index places i) p) [
      | inl here ↦ omega (arith, load_here loads places p i here, small i 0 inside)
      | inr other ↦ omega (arith, load_elsewhere loads places p i other)
    ]

-- the load of a PE is far below 2^64
sum_small : (loads places : List ℕ) (p n : ℕ) → All (λ units. units ≤ LOAD) loads → n ≤ length loads → total n (load_at loads places p) ≤ n * LOAD
sum_small loads places p zero small inside = omega arith
sum_small loads places p (suc n) small inside =
    omega (arith, sum_small loads places p n small (omega arith), load_small loads places p n small (omega arith))

-- the loads of the first n elements are on their PEs
abbrev pub AreAdded : List ℕ → List ℕ → ℕ → List ℕ → Type 0
AreAdded loads places n sums =
    (p : ℕ) → p < length sums → slice_index sums p ≡ total n (load_at loads places p)

-- the sum with one more load fits its 64 bits
pub next_load_fits : (loads places sums : List ℕ) (n p : ℕ) → AreAdded loads places n sums → IsLoads loads → n < length loads → p < length sums
    → slice_index sums p + slice_index loads n < 2 ^ 64
next_load_fits loads places sums n p added within inside on =
    omega (arith, added p on, sum_small loads places p n within.small (omega arith), within.small n 0 inside, mul-le-mul_right LOAD within.few, mul-le-mul_right LOAD inside)

-- one more load is added
pub load_added : (loads places sums : List ℕ) (n : ℕ) → AreAdded loads places n sums → slice_index places n < length sums
    → AreAdded loads places (n + 1) (set sums (slice_index places n) (slice_index sums (slice_index places n) + slice_index loads n))
load_added loads places sums n added on p inside =
    let place : ℕ = slice_index places n in
    let sum : ℕ = slice_index sums place + slice_index loads n in
    let kept = length-set sums place sum in
    let before = added p (omega (arith, inside, kept)) in
    let more = total_more n (load_at loads places p) in
    elim (cases_eq place p) [
      | inl here ↦
          let at : slice_index (set sums place sum) p ≡ sum = subst (λ q. slice_index (set sums place sum) q ≡ sum) here (get_or-set_same sums place sum 0 on) in
          omega (arith, at, ap (slice_index sums) here, before, more, load_here loads places p n here)
      | inr other ↦
          omega (arith, get_or-set_other sums place p sum 0 (λ e. other (sym e)), before, more, load_elsewhere loads places p n other)
    ]
