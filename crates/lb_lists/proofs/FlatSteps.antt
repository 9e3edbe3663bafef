-- The steps of all blocks in one list, block after block.
use Rattle.std.proofs.Common.{◌≡◌, ℕ, ◌+◌, ◌<◌, ◌≤◌, List, [], ◌∷◌, ◌++◌, length, take, drop, ap, refl, sym, arith, ◌∙◌}
use Rattle.std.proofs.lemmas.List.{append_assoc, length-append, length-map, map-append}
use Rattle.lb_lists.specs.RefinedRooms.{AreStepsIn, StandingLists}
use Rattle.lb_lists.specs.Steps.{all_steps, first_steps, places_of, rises_of}

pub all_steps-more : (rows : List (List (ℕ × ℕ))) (steps : List (ℕ × ℕ)) → all_steps (rows ++ steps ∷ []) ≡ all_steps rows ++ steps
all_steps-more [] [] = refl
all_steps-more [] (step ∷ steps) = ap (λ more. step ∷ more) (all_steps-more [] steps)
all_steps-more (row ∷ rows) steps = ap (λ more. row ++ more) (all_steps-more rows steps) ∙ sym (append_assoc row (all_steps rows) steps)

first_steps-more : (at : ℕ) (rows : List (List (ℕ × ℕ))) (steps : List (ℕ × ℕ))
    → first_steps at (rows ++ steps ∷ []) ≡ first_steps at rows ++ (at + length (all_steps rows ++ steps)) ∷ []
first_steps-more at [] steps = refl
first_steps-more at (row ∷ rows) steps =
    let same : at + length row + length (all_steps rows ++ steps) ≡ at + length (row ++ all_steps rows ++ steps) = omega
    (arith, length-append (row ++ all_steps rows) steps, length-append row (all_steps rows), length-append (all_steps rows) steps) in
    ap (λ more. at ∷ more) (first_steps-more (at + length row) rows steps ∙ ap (λ n. first_steps (at + length row) rows ++ n ∷ []) same)

-- a first step for each block, and one number more
pub first_steps-length : (at : ℕ) (rows : List (List (ℕ × ℕ))) → length (first_steps at rows) ≡ length rows + 1
first_steps-length at [] = refl
first_steps-length at (row ∷ rows) = omega (arith, first_steps-length (at + length row) rows)

-- the places and the rises with those of one more block
pub places-more : (rows : List (List (ℕ × ℕ))) (steps : List (ℕ × ℕ)) (places : List ℕ) → places ≡ places_of (all_steps rows)
    → places ++ places_of steps ≡ places_of (all_steps (rows ++ steps ∷ []))
places-more rows steps places is =
    ap (λ front. front ++ places_of steps) is ∙ sym (map-append (λ step. step.0) (all_steps rows) steps) ∙ ap places_of (sym (all_steps-more rows steps))

pub rises-more : (rows : List (List (ℕ × ℕ))) (steps : List (ℕ × ℕ)) (rises : List ℕ) → rises ≡ rises_of (all_steps rows)
    → rises ++ rises_of steps ≡ rises_of (all_steps (rows ++ steps ∷ []))
rises-more rows steps rises is =
    ap (λ front. front ++ rises_of steps) is ∙ sym (map-append (λ step. step.1) (all_steps rows) steps) ∙ ap rises_of (sym (all_steps-more rows steps))

-- the first steps with the number of all steps of one more block
pub starts-more : (rows : List (List (ℕ × ℕ))) (steps : List (ℕ × ℕ)) (starts : List ℕ) (count : ℕ) → starts ≡ first_steps 0 rows
    → count ≡ length (all_steps (rows ++ steps ∷ [])) → starts ++ count ∷ [] ≡ first_steps 0 (rows ++ steps ∷ [])
starts-more rows steps starts count is counted =
    let total : count ≡ 0 + length (all_steps rows ++ steps) = omega (arith, counted, ap length (all_steps-more rows steps)) in
    ap (λ front. front ++ count ∷ []) is ∙ ap (λ n. first_steps 0 rows ++ n ∷ []) total ∙ sym (first_steps-more 0 rows steps)

-- the steps of these heights, as they were written to the lists
pub steps_in : (heights : List (List (ℕ × ℕ))) (count : ℕ) (starts places rises : List ℕ) (old new : StandingLists) → starts ≡ first_steps 0 heights
    → places ≡ places_of (all_steps heights) → rises ≡ rises_of (all_steps heights) → count ≡ length places
    → (count ≤ length old.step_places → new.step_starts ≡ starts) → (count ≤ length old.step_places → take count new.step_places ≡ places)
    → (count ≤ length old.step_places → take count new.step_rises ≡ rises) → (length old.step_places < count → new.step_starts ≡ old.step_starts)
    → drop count new.step_places ≡ drop count old.step_places → drop count new.step_rises ≡ drop count old.step_rises
    → AreStepsIn heights count old new
steps_in heights count starts places rises old new starts_are places_are rises_are counted starts_in places_in rises_in starts_left places_left rises_left =
    record {
      counted = counted ∙ ap length places_are ∙ length-map (all_steps heights) (λ step. step.0);
      starts = λ few. starts_in few ∙ starts_are;
      places = λ few. places_in few ∙ places_are;
      rises = λ few. rises_in few ∙ rises_are;
      starts_left = starts_left;
      places_left = places_left;
      rises_left = rises_left;
    }
