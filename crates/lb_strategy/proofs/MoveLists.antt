-- A list of moves, element by element.
use Rattle.std.proofs.Common.{◌≡◌, ◌≢◌, ℕ, zero, suc, ◌+◌, ◌-◌, ◌<◌, ◌≤◌, inl, inr, eqb, List, [], ◌++◌, length, take, ◌∷◌, arith, ap, sym, ◌∙◌, append_assoc, MatchBool}
use Rattle.std.proofs.lemmas.Bool.Decides.{eqb_tells}
use Rattle.std.specs.List.{filter}
use Rattle.std.proofs.lemmas.List.{append-nil, take_all, length-take-le}
use Rattle.std.proofs.lemmas.List.FromFn.{filter_of_map_range_with_len_more}
use Rattle.lb_strategy.specs.Moves.{is_move, move_of, moves_below}

-- one more element
pub moves_more : (sizes : List (ℕ × ℕ)) (cuts names : List ℕ) (n : ℕ)
    → moves_below sizes cuts names (n + 1) ≡ moves_below sizes cuts names n ++ filter is_move (move_of sizes cuts names n ∷ [])
moves_more sizes cuts names n =
    filter_of_map_range_with_len_more is_move (move_of sizes cuts names) 0 n n (omega arith)

-- the moves of all elements begin with those of the first
pub moves_rest : (sizes : List (ℕ × ℕ)) (cuts names : List ℕ) (i k : ℕ) → (rest : List (ℕ × ℕ × ℕ))
    × (moves_below sizes cuts names (i + k) ≡ moves_below sizes cuts names i ++ rest)
moves_rest sizes cuts names i zero =
    let same : i + 0 ≡ i = omega arith in
    ([], ap (moves_below sizes cuts names) same ∙ sym (append-nil (moves_below sizes cuts names i)))
moves_rest sizes cuts names i (suc k) =
    let before = moves_rest sizes cuts names i k in
    let last : List (ℕ × ℕ × ℕ) = filter is_move (move_of sizes cuts names (i + k) ∷ []) in
    let next : i + suc k ≡ i + k + 1 = omega arith in (
      before.0 ++ last,
      ap (moves_below sizes cuts names) next ∙ moves_more sizes cuts names (i + k) ∙ ap (λ l. l ++ last) before.1 ∙ append_assoc (moves_below sizes cuts names i) before.0 last,
    )

-- a list that does not continue with the next move is not the list of moves
pub not_the_moves : (sizes : List (ℕ × ℕ)) (cuts names : List ℕ) (n i : ℕ) (moves taken step : List (ℕ × ℕ × ℕ)) → i < n
    → taken ≡ moves_below sizes cuts names i → step ≡ filter is_move (move_of sizes cuts names i ∷ [])
    → ((rest : List (ℕ × ℕ × ℕ)) → moves ≢ taken ++ step ++ rest) → moves ≢ moves_below sizes cuts names n
not_the_moves sizes cuts names n i moves taken step inside so_far next other same =
    let behind = moves_rest sizes cuts names (i + 1) (n - (i + 1)) in
    let parts : n ≡ i + 1 + (n - (i + 1)) = omega arith in
    let all : moves_below sizes cuts names n ≡ moves_below sizes cuts names (i + 1) ++ behind.0 = ap (moves_below sizes cuts names) parts ∙ behind.1 in
    let here : moves_below sizes cuts names (i + 1) ≡ moves_below sizes cuts names i ++ filter is_move (move_of sizes cuts names i ∷ []) = moves_more sizes cuts names i in
    let both : taken ++ step ≡ moves_below sizes cuts names (i + 1) = ap (λ t. t ++ step) so_far ∙ ap (λ s. moves_below sizes cuts names i ++ s) next ∙ sym here in
    other behind.0 (same ∙ all ∙ ap (λ l. l ++ behind.0) (sym both))

-- the whole list was taken exactly where none of its moves is left
pub all_taken : (moves wanted : List (ℕ × ℕ × ℕ)) (next : ℕ) → take next moves ≡ wanted → next ≤ length moves
    → MatchBool (eqb next (length moves)) (moves ≡ wanted) (moves ≢ wanted)
all_taken moves wanted next so_far inside =
    elim (eqb_tells next (length moves)) [
      | inl same ↦ rw same.0 (sym (take_all next moves (omega arith)) ∙ so_far)
      | inr apart ↦ rw apart.0 (λ e. apart.1 (sym (length-take-le next moves inside) ∙ ap length so_far ∙ ap length (sym e)))
    ]
