-- The steps of blocks, read from plain lists.
use Rattle.std.proofs.Common.{◌≡◌, ℕ, zero, suc, ◌+◌, ◌-◌, ◌<◌, ◌≤◌, min, inl, inr, List, [], ◌∷◌, ◌++◌, length, take, drop, slice_index, arith, ap, refl, sym, ◌∙◌}
use Rattle.std.specs.List.{between, zip}
use Rattle.std.proofs.lemmas.Bool.{cases_lt}
use Rattle.std.proofs.lemmas.List.{length-drop, take_all}
use Rattle.std.proofs.lemmas.List.Edits.{between_more}
use Rattle.std.proofs.lemmas.Slice.Zip.{get_or-zip, length-zip}
use Rattle.lb_lists.specs.Steps.{rows_between}

between_none : {X : Type 0} (xs : List X) (first end : ℕ) → end ≤ first → between first end xs ≡ []
between_none xs first end none =
    let nothing : end - first ≡ 0 = omega (arith, none) in
    ap (λ n. take n (drop first xs)) nothing

between_past : {X : Type 0} (xs : List X) (first end other : ℕ) → length xs ≤ end → end ≤ other → between first end xs ≡ between first other xs
between_past xs first end other past more =
    take_all (end - first) (drop first xs) (omega (arith, length-drop first xs, past))
    ∙ sym (take_all (other - first) (drop first xs) (omega (arith, length-drop first xs, past, more)))

-- one more step of a row
pub row_more : (places rises : List ℕ) (first i : ℕ) (row : List (ℕ × ℕ)) → first ≤ i → i < length places → i < length rises
    → row ≡ between first i (zip places rises) → row ++ (slice_index places i, slice_index rises i) ∷ [] ≡ between first (i + 1) (zip places rises)
row_more places rises first i row from inside beside is =
    ap (λ front. front ++ (slice_index places i, slice_index rises i) ∷ []) is
    ∙ ap (λ pair. between first i (zip places rises) ++ pair ∷ []) (sym (get_or-zip places rises i (0, 0) inside beside))
    ∙ sym (between_more (zip places rises) first i (0, 0) from (omega (arith, inside, beside, length-zip places rises)))

-- a row up to the end, or up to where the lists end
pub row_done : (places rises : List ℕ) (first end last i : ℕ) (row : List (ℕ × ℕ)) → last ≡ min (min end (length places)) (length rises) → last ≤ i
    → first ≤ i → (first ≤ last → i ≤ last) → (last < first → i ≡ first) → row ≡ between first i (zip places rises)
    → row ≡ between first end (zip places rises)
row_done places rises first end last i row last_is done from inside unmoved is =
    let zipped : length (zip places rises) ≡ min (length places) (length rises) = length-zip places rises in
    elim (cases_lt last first) [
      | inl nothing ↦
          let same : i ≡ first = unmoved nothing in
          is ∙ ap (λ n. between first n (zip places rises)) same ∙ elim (cases_lt first end) [
            | inl more ↦ between_past (zip places rises) first first end (omega (arith, zipped, last_is, nothing, more)) (omega (arith, more))
            | inr none ↦ between_none (zip places rises) first first (omega arith) ∙ sym (between_none (zip places rises) first end none)
          ]
      | inr some ↦
          let same : i ≡ last = omega (arith, done, inside some) in
          is ∙ ap (λ n. between first n (zip places rises)) same ∙ elim (cases_lt last end) [
            | inl more ↦ between_past (zip places rises) first last end (omega (arith, zipped, last_is, more)) (omega (arith, more))
            | inr all ↦
                let whole : last ≡ end = omega (arith, last_is, all) in
                ap (λ n. between first n (zip places rises)) whole
          ]
    ]

-- the rows up to one more start
rows-more : (starts : List ℕ) (steps : List (ℕ × ℕ)) (b : ℕ) → suc b < length starts
    → rows_between (take (suc (suc b)) starts) steps ≡ rows_between (take (suc b) starts) steps ++ between (slice_index starts b) (slice_index starts (suc b)) steps ∷ []
rows-more [] steps b inside = absurd (omega (arith, inside))
rows-more (x ∷ []) steps b inside = absurd (omega (arith, inside))
rows-more (x ∷ y ∷ starts) steps zero inside = refl
rows-more (x ∷ y ∷ starts) steps (suc b) inside =
    ap (λ rows. between x y steps ∷ rows) (rows-more (y ∷ starts) steps b (omega (arith, inside)))

pub one_more_row : (starts : List ℕ) (steps : List (ℕ × ℕ)) (b : ℕ) (rows : List (List (ℕ × ℕ))) (row : List (ℕ × ℕ)) → 1 ≤ b → b < length starts
    → rows ≡ rows_between (take b starts) steps → row ≡ between (slice_index starts (b - 1)) (slice_index starts b) steps
    → rows ++ row ∷ [] ≡ rows_between (take (b + 1) starts) steps
one_more_row starts steps zero rows row some inside is row_is = absurd (omega (arith, some))
one_more_row starts steps (suc b) rows row some inside is row_is =
    let next : suc b + 1 ≡ suc (suc b) = omega arith in
    let before : suc b - 1 ≡ b = omega arith in
    ap (λ front. front ++ row ∷ []) is
    ∙ ap (λ it. rows_between (take (suc b) starts) steps ++ it ∷ []) (row_is ∙ ap (λ n. between (slice_index starts n) (slice_index starts (suc b)) steps) before)
    ∙ sym (ap (λ n. rows_between (take n starts) steps) next ∙ rows-more starts steps b inside)

-- one start alone gives no rows
pub no_rows : (starts : List ℕ) (steps : List (ℕ × ℕ)) → [] ≡ rows_between (take 1 starts) steps
no_rows [] steps = refl
no_rows (x ∷ starts) steps = refl
