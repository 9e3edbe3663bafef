-- Step functions of rows, and their levels.
use Rattle.std.proofs.Common.{◌≡◌, ℕ, suc, ◌+◌, ◌-◌, ◌<◌, ◌≤◌, true, false, cond, nat_le, List, [], ◌∷◌, ◌++◌, length, get_or, slice_index, arith, refl, ap, ◌∙◌, subst, inl, inr}
use Rattle.std.proofs.lemmas.Bool.{cases_lt, le-leb, lt-leb}
use Rattle.std.proofs.lemmas.Bool.Decides.{eqb_tells}
use Rattle.std.proofs.lemmas.List.{get_or_append_left, get_or_push, length-append}
use Rattle.chain_refinement.specs.Refinement.{height}
use Rattle.refinement_search.specs.Rows.{AreStepsOf, with_step}
use Rattle.refinement_search.specs.Tables.{IsLevelTo}
use Rattle.chain_refinement.proofs.Climbs.{height_rises}

-- a step behind a place changes nothing at that place
height_push_behind : (steps : List (ℕ × ℕ)) (at rise x : ℕ) → x < at → height (steps ++ (at, rise) ∷ []) x ≡ height steps x
height_push_behind [] at rise x behind =
    let test : nat_le at x ≡ false = lt-leb at x behind in rw test refl
height_push_behind (step ∷ steps) at rise x behind =
    ap (λ h. cond (nat_le step.0 x) (step.1 + h) 0) (height_push_behind steps at rise x behind)

-- every step has its place before this one
abbrev pub AreBefore : List (ℕ × ℕ) → ℕ → Type 0
AreBefore steps x = (k : ℕ) (d : ℕ × ℕ) → k < length steps → (get_or steps k d).0 < x

-- a step at or before a place, behind all others, adds its rise there
height_push : (steps : List (ℕ × ℕ)) (at rise x : ℕ) → AreBefore steps at → at ≤ x → height (steps ++ (at, rise) ∷ []) x ≡ height steps x + rise
height_push [] at rise x before onward =
    let test : nat_le at x ≡ true = le-leb at x onward in rw test (omega arith)
height_push (step ∷ steps) at rise x before onward =
    let first : step.0 < at = before 0 (0, 0) (omega arith) in
    let test : nat_le step.0 x ≡ true = le-leb step.0 x (omega arith) in
    let rest : height (steps ++ (at, rise) ∷ []) x ≡ height steps x + rise = height_push steps at rise x (λ k d inside. before (suc k) d (omega arith)) onward in
    rw test (omega (arith, rest))

-- the steps of a row up to a place
pub record AreStepsTo (row : List ℕ) (near place : ℕ) (steps : List (ℕ × ℕ)) (last : ℕ) : Type 0 where
  pub onward : near ≤ place
  pub before : AreBefore steps (place + 1)
  pub flat : (x : ℕ) → x ≤ near → height steps x ≡ slice_index row near
  pub heights : (x : ℕ) → near ≤ x → x ≤ place → height steps x ≡ slice_index row x
  pub behind : (x : ℕ) → place ≤ x → height steps x ≡ last
  pub last_is : last ≡ slice_index row place

-- a step with its rise, or none where it does not rise: what the heights are then
pub record IsStepped (steps : List (ℕ × ℕ)) (at rise : ℕ) (new : List (ℕ × ℕ)) : Type 0 where
  pub before : AreBefore new (at + 1)
  pub earlier : (x : ℕ) → x < at → height new x ≡ height steps x
  pub later : (x : ℕ) → at ≤ x → height new x ≡ height steps x + rise

step_pushed : (steps : List (ℕ × ℕ)) (at rise : ℕ) → AreBefore steps at → IsStepped steps at rise (steps ++ (at, rise) ∷ [])
step_pushed steps at rise before =
    record {
      before = λ k d within. elim (cases_lt k (length steps)) [
        | inl earlier ↦ omega (arith, before k d earlier, ap (λ (s : ℕ × ℕ). s.0) (get_or_append_left steps ((at, rise) ∷ []) d k earlier))
        | inr same ↦ omega (arith, ap (λ (s : ℕ × ℕ). s.0) (get_or_push steps (at, rise) d k (omega (arith, same, length-append steps ((at, rise) ∷ [])))))
      ];
      earlier = λ x behind. height_push_behind steps at rise x behind;
      later = λ x onward. height_push steps at rise x before onward;
    }

pub stepped : (steps : List (ℕ × ℕ)) (at rise : ℕ) → AreBefore steps at → IsStepped steps at rise (with_step steps at rise)
stepped steps at rise before =
    elim (eqb_tells rise 0) [
      | inl none ↦ rw none.0 (record {
        before = λ k d within. omega (arith, before k d within);
        earlier = λ x behind. refl;
        later = λ x onward. omega (arith, none.1);
      })
      | inr some ↦ rw some.0 (step_pushed steps at rise before)
    ]

-- the step that every row begins with
pub first_step : (row : List ℕ) (near : ℕ) → AreStepsTo row near near (with_step [] 0 (slice_index row near)) (slice_index row near)
first_step row near =
    let one : IsStepped [] 0 (slice_index row near) (with_step [] 0 (slice_index row near)) = stepped [] 0 (slice_index row near) (λ k d inside. absurd (omega arith)) in
    let there : (x : ℕ) → height (with_step [] 0 (slice_index row near)) x ≡ slice_index row near = λ x. omega (arith, one.later x (omega arith)) in
    record {
      onward = omega arith;
      before = λ k d within. omega (arith, one.before k d within);
      flat = λ x _. there x;
      heights = λ x from to.
          let same : near ≡ x = omega arith in
          subst (λ n. height (with_step [] 0 (slice_index row near)) x ≡ slice_index row n) same (there x);
      behind = λ x _. there x;
      last_is = refl;
    }

-- the steps up to the next place
pub step_more : (row : List ℕ) (near place : ℕ) (steps : List (ℕ × ℕ)) (last : ℕ) → AreStepsTo row near place steps last
    → last ≤ slice_index row (place + 1) → AreStepsTo row near (place + 1)
    (with_step steps (place + 1) (slice_index row (place + 1) - last)) (slice_index row (place + 1))
step_more row near place steps last h low =
    let at : ℕ = place + 1 in
    let rise : ℕ = slice_index row (place + 1) - last in
    let one : IsStepped steps at rise (with_step steps at rise) = stepped steps at rise h.before in
    let there : (x : ℕ) → at ≤ x → height (with_step steps at rise) x ≡ slice_index row (place + 1) = λ x onward. omega
    (arith, one.later x onward, h.behind x (omega arith), low) in
    record {
      onward = omega (arith, h.onward);
      before = one.before;
      flat = λ x early. one.earlier x (omega (arith, h.onward)) ∙ h.flat x early;
      heights = λ x from to. elim (cases_lt x at) [
        | inl earlier ↦ one.earlier x earlier ∙ h.heights x from (omega arith)
        | inr here ↦
            let same : place + 1 ≡ x = omega (arith, here) in
            subst (λ n. height (with_step steps at rise) x ≡ slice_index row n) same (there x here)
      ];
      behind = there;
      last_is = refl;
    }

pub steps_done : (row : List ℕ) (near far place : ℕ) (steps : List (ℕ × ℕ)) (last : ℕ) → AreStepsTo row near place steps last → place ≡ far → AreStepsOf row near far steps
steps_done row near far place steps last h same =
    record {
      flat = h.flat;
      heights = λ x from to. h.heights x from (omega arith);
      level = λ x behind. h.behind x (omega arith) ∙ h.last_is ∙ ap (slice_index row) same;
    }

-- a level up to where the height rises
pub level_ends : (steps : List (ℕ × ℕ)) (low far cut : ℕ) → low ≤ cut → cut < far → height steps cut ≡ height steps low
    → height steps cut < height steps (cut + 1) → IsLevelTo (height steps) low far cut
level_ends steps low far cut from to level higher =
    record {
      from = from;
      to = omega arith;
      level = level;
      last = λ x behind _. omega (arith, higher, height_rises steps (cut + 1) x (omega arith));
    }

-- a level up to the last place
pub level_full : (steps : List (ℕ × ℕ)) (low far cut : ℕ) → low ≤ cut → cut ≡ far → height steps cut ≡ height steps low → IsLevelTo (height steps) low far cut
level_full steps low far cut from to level =
    record { from = from; to = omega arith; level = level; last = λ x behind within. absurd (omega arith) }
