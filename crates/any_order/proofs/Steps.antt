-- The levels of steps, place by place.
use Rattle.std.proofs.Common.{◌≡◌, ℕ, ◌+◌, ◌<◌, ◌≤◌, inl, inr, true, false, List, length, drop, get_or, nat_le, arith, refl, ap, sym, ◌∙◌, add-one, drop-cons}
use Rattle.std.proofs.lemmas.Bool.{cases_lt, le-leb, lt-leb}
use Rattle.std.proofs.Math.ListN.{drop_of_length-le}
use Rattle.any_order.specs.AnyOrder.{level_at}
use Rattle.any_order.specs.Internal.{IsReached}
use Rattle.any_order.specs.declared.follow.Reached.{Reached}

level_step : (steps : List (ℕ × ℕ)) (next before z : ℕ) (d : ℕ × ℕ) → next < length steps → (get_or steps next d).0 ≤ z
    → level_at (drop next steps) before z ≡ level_at (drop (next + 1) steps) ((get_or steps next d).1) z
level_step steps next before z d inside below =
    let test : nat_le (get_or steps next d).0 z ≡ true = le-leb (get_or steps next d).0 z below in
    rw (add-one, drop-cons steps next d inside, test) refl

level_stop : (steps : List (ℕ × ℕ)) (next before z : ℕ) (d : ℕ × ℕ) → next < length steps → z < (get_or steps next d).0 → level_at (drop next steps) before z ≡ before
level_stop steps next before z d inside behind =
    let test : nat_le (get_or steps next d).0 z ≡ false = lt-leb (get_or steps next d).0 z behind in
    rw (drop-cons steps next d inside, test) refl

-- one more step
pub reached_one : (steps : List (ℕ × ℕ)) (x next level : ℕ) (d : ℕ × ℕ) → IsReached steps x (record { next = next; level = level })
    → next < length steps → (get_or steps next d).0 ≤ x → IsReached steps x (record { next = next + 1; level = (get_or steps next d).1 })
reached_one steps x next level d h inside there =
    record {
      inside = omega arith;
      left = λ z onward. h.left z onward ∙ level_step steps next level z d inside (omega (arith, there, onward));
    }

-- the first step behind the place, or none
pub reached_there : (steps : List (ℕ × ℕ)) (x next level : ℕ) (d : ℕ × ℕ) → IsReached steps x (record { next = next; level = level })
    → (next < length steps → x < (get_or steps next d).0) → level ≡ level_at steps 0 x
reached_there steps x next level d h behind =
    elim (cases_lt next (length steps)) [
      | inl inside ↦ sym (h.left x (omega arith) ∙ level_stop steps next level x d inside (behind inside))
      | inr ended ↦
          let none : level_at (drop next steps) level x ≡ level = ap (λ s. level_at s level x) (drop_of_length-le steps ended) in
          sym (h.left x (omega arith) ∙ none)
    ]

pub none_reached : (steps : List (ℕ × ℕ)) (x : ℕ) → IsReached steps x (record { next = 0; level = 0 })
none_reached steps x = record { inside = omega arith; left = λ z above. refl }

-- steps that are followed to a place are followed to the next
pub reached_next : (steps : List (ℕ × ℕ)) (x : ℕ) (at : Reached) → IsReached steps x at → IsReached steps (x + 1) at
reached_next steps x at h = record { inside = h.inside; left = λ z above. h.left z (omega arith) }
