-- Climbs of step functions.
use Rattle.std.proofs.Common.{◌≡◌, ℕ, ◌+◌, ◌^◌, ◌<◌, ◌≤◌, List, [], ◌∷◌, length, drop, get_or, nat_le, cond, true, false, Bool, arith, refl, ap, inl, inr, add-one, drop-cons}
use Rattle.std.proofs.lemmas.Bool.{cases_lt, false≢true, le-leb, lt-leb, leb-true}
use Rattle.std.proofs.Math.ListN.{drop_of_length-le}
use Rattle.chain_refinement.specs.Refinement.{height}
use Rattle.chain_refinement.specs.Walks.{IsClimbed}

-- one step and all behind it, at a place and at a later one
rises_by_case : (here later : Bool) (rise low high : ℕ) → (here ≡ true → later ≡ true) → low ≤ high → cond here (rise + low) 0 ≤ cond later (rise + high) 0
rises_by_case true true rise low high onward below = omega arith
rises_by_case true false rise low high onward below = absurd (false≢true (onward refl))
rises_by_case false later rise low high onward below = omega arith

-- a step function never falls
pub height_rises : (steps : List (ℕ × ℕ)) (x y : ℕ) → x ≤ y → height steps x ≤ height steps y
height_rises [] x y onward = omega arith
height_rises (step ∷ steps) x y onward =
    let reached : nat_le step.0 x ≡ true → nat_le step.0 y ≡ true = λ at_x. le-leb step.0 y (omega (arith, leb-true step.0 x at_x, onward)) in
    rises_by_case (nat_le step.0 x) (nat_le step.0 y) step.1 (height steps x) (height steps y) reached (height_rises steps x y onward)

-- what is left to climb from a step on: the step and what is left behind it, or nothing where the step is behind the place
step_taken : (steps : List (ℕ × ℕ)) (next x : ℕ) (d : ℕ × ℕ) → next < length steps → (get_or steps next d).0 ≤ x
    → height (drop next steps) x ≡ (get_or steps next d).1 + height (drop (next + 1) steps) x
step_taken steps next x d inside reached =
    let test : nat_le (get_or steps next d).0 x ≡ true = le-leb (get_or steps next d).0 x reached in
    rw (add-one, drop-cons steps next d inside, test) refl

step_behind : (steps : List (ℕ × ℕ)) (next x : ℕ) (d : ℕ × ℕ) → next < length steps → x < (get_or steps next d).0 → height (drop next steps) x ≡ 0
step_behind steps next x d inside behind =
    let test : nat_le (get_or steps next d).0 x ≡ false = lt-leb (get_or steps next d).0 x behind in
    rw (drop-cons steps next d inside, test) refl

-- nothing is left behind the last step
pub all_taken : (steps : List (ℕ × ℕ)) (next x : ℕ) → length steps ≤ next → height (drop next steps) x ≡ 0
all_taken steps next x ended = ap (λ left. height left x) (drop_of_length-le steps ended)

-- the climb of one more step
pub climbed_one : (steps : List (ℕ × ℕ)) (place next reached : ℕ) (d : ℕ × ℕ) → IsClimbed steps place next reached → next < length steps
    → (get_or steps next d).0 ≤ place → (get_or steps next d).1 < 2 ^ 64 → IsClimbed steps place (next + 1) (reached + (get_or steps next d).1)
climbed_one steps place next reached d climb inside taken small =
    record {
      inside = omega arith;
      small = omega (arith, climb.small);
      left = λ x onward. omega (arith, climb.left x onward, step_taken steps next x d inside (omega (arith, taken, onward)));
    }

-- where the next step is behind the place, or there is none, the climb is at the height of the place
pub climbed_all : (steps : List (ℕ × ℕ)) (place next reached : ℕ) (d : ℕ × ℕ) → IsClimbed steps place next reached
    → (next < length steps → place < (get_or steps next d).0) → reached ≡ height steps place
climbed_all steps place next reached d climb behind =
    elim (cases_lt next (length steps)) [
      | inl inside ↦ omega (arith, climb.left place (omega arith), step_behind steps next place d inside (behind inside))
      | inr ended ↦ omega (arith, climb.left place (omega arith), all_taken steps next place ended)
    ]

-- behind a place by which all steps are climbed, the height stays the same
pub level_behind : (steps : List (ℕ × ℕ)) (place next reached x : ℕ) → IsClimbed steps place next reached → length steps ≤ next → place ≤ x → height steps x ≤ height steps place
level_behind steps place next reached x climb ended onward =
    omega (arith, climb.left x onward, climb.left place (omega arith), all_taken steps next x ended, all_taken steps next place ended)
