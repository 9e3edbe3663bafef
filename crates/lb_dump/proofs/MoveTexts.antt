-- The text of moves, as it grows and as it is judged.
use Rattle.std.proofs.Common.{◌≡◌, ℕ, suc, ◌+◌, ◌-◌, ◌<◌, ◌≤◌, List, [], ◌∷◌, ◌++◌, length, append_assoc, ap, sym, subst, ◌∙◌, arith}
use Rattle.std.proofs.lemmas.List.Elements.{All-append}
use Rattle.chare_index.specs.declared.limits.TheConstants.Limits.{ELEMENTS, PES}
use Rattle.dump_format.specs.Layout.{Layout, Broken, judge}
use Rattle.dump_format.specs.Fields.{move, moves as move_fields}
use Rattle.dump_format.specs.Text.{move_text}
use Rattle.dump_format.specs.declared.error.DumpError.{DumpError}
use Rattle.dump_format.proofs.Judging.{broken_stays, moves_taken}
use Rattle.dump_format.proofs.Spelling.{flat_map_push}
use Rattle.lb_dump.specs.Moves.{AreMoves, BreaksMove, moves_text}
use Rattle.lb_dump.proofs.ElementTexts.{only}

-- where more moves have to follow, the next one comes first
pub next_move : (count k n : ℕ) → 0 < n → move_fields count k n ≡ move count k (move_fields count (k + 1) (n - 1))
unfolding move_fields
next_move count k n some =
    let one_more : n ≡ suc (n - 1) = omega arith in
    ap (λ m. move_fields count k m) one_more

module _ (count all : ℕ) (list : List (ℕ × ℕ × ℕ)) (few : count ≤ ELEMENTS) (kept : AreMoves count list) where
  -- these moves, and then more
  pub moves_read : (more : List ℕ) → length list ≤ all
      → judge (move_fields count 0 all) (moves_text list ++ more) ≡ judge (move_fields count (length list) (all - length list)) more
  moves_read more within =
      let left : all ≡ length list + (all - length list) = omega arith in
      let at : 0 + length list ≡ length list = omega arith in
      ap (λ n. judge (move_fields count 0 n) (moves_text list ++ more)) left
      ∙ moves_taken count 0 (all - length list) list more few kept.elements kept.present kept.planned
      ∙ ap (λ k. judge (move_fields count k (all - length list)) more) at

  -- these moves, and the next one
  pub next_move_read : (more : List ℕ) → length list < all
      → judge (move_fields count 0 all) (moves_text list ++ more) ≡ judge
      (move count (length list) (move_fields count (length list + 1) (all - length list - 1))) more
  next_move_read more inside = moves_read more (omega arith) ∙ ap (λ l. judge l more) (next_move count (length list) (all - length list) (omega arith))

  -- the fault of the next move, whatever follows
  pub next_move_breaks : (front after : List ℕ) (e : DumpError) → length list < all → BreaksMove count (length list) front e
      → judge (move_fields count 0 all) (moves_text list ++ (front ++ after)) ≡ Broken e
  next_move_breaks front after e inside breaks =
      let rest : Layout = move_fields count (length list + 1) (all - length list - 1) in
      next_move_read (front ++ after) inside ∙ broken_stays (move count (length list) rest) front after e (breaks rest)

-- The fault of the move after those that were taken is that of the text.
pub move_fault_behind : (count all : ℕ) (list old : List (ℕ × ℕ × ℕ)) (n : ℕ) (front after rest bytes : List ℕ) (e : DumpError)
    → count ≤ ELEMENTS → AreMoves count list → length list < all → n ≡ length list
    → BreaksMove count n front e → rest ≡ front ++ after → moves_text list ++ rest ≡ moves_text old ++ bytes → judge (move_fields count 0 all) (moves_text old ++ bytes) ≡ Broken e
move_fault_behind count all list old n front after rest bytes e few kept inside at breaks parts joined =
    ap (judge (move_fields count 0 all)) (sym joined ∙ ap (λ t. moves_text list ++ t) parts)
    ∙ next_move_breaks count all list few kept front after e inside (subst (λ k. BreaksMove count k front e) at breaks)

-- one move more
module _ (count : ℕ) (list more : List (ℕ × ℕ × ℕ)) (step : ℕ × ℕ × ℕ) (are : more ≡ list ++ step ∷ []) where
  pub moves_kept_next : AreMoves count list → step.0 < count → step.1 < PES → step.2 < PES → AreMoves count more
  moves_kept_next kept inside here there =
      record {
        elements = rw are (All-append (λ (m : ℕ × ℕ × ℕ). m.0 < count) list (step ∷ []) kept.elements (only (λ (m : ℕ × ℕ × ℕ). m.0 < count) step inside));
        present = rw are (All-append (λ (m : ℕ × ℕ × ℕ). m.1 < PES) list (step ∷ []) kept.present (only (λ (m : ℕ × ℕ × ℕ). m.1 < PES) step here));
        planned = rw are (All-append (λ (m : ℕ × ℕ × ℕ). m.2 < PES) list (step ∷ []) kept.planned (only (λ (m : ℕ × ℕ × ℕ). m.2 < PES) step there));
      }

  pub moves_joined_next : (front after rest text : List ℕ) → front ≡ move_text step → rest ≡ front ++ after → moves_text list ++ rest ≡ text → moves_text more ++ after ≡ text
  moves_joined_next front after rest text spelled parts joined =
      let longer : moves_text more ≡ moves_text list ++ front = ap moves_text are ∙ flat_map_push move_text list step ∙ ap (λ t. moves_text list ++ t) (sym spelled) in
      ap (λ t. t ++ after) longer ∙ append_assoc (moves_text list) front after ∙ ap (λ t. moves_text list ++ t) (sym parts) ∙ joined
