-- The lines of the rounds, one after another.
use Rattle.std.proofs.Common.{◌≡◌, ℕ, ◌+◌, ◌-◌, ◌<◌, List, [], ◌∷◌, ◌++◌, length, get_or, slice_get, Some, arith, ap, sym, ◌∙◌, append_assoc, add-one, refl}
use Rattle.std.specs.List.{flat_map, range_with_len}
use Rattle.std.proofs.lemmas.Grind.{flat_map-append}
use Rattle.std.proofs.lemmas.List.{append-nil, map-id}
use Rattle.std.proofs.lemmas.List.FromFn.{map-range_with_len_more}
use Rattle.std.proofs.lemmas.Option.{slice_get-get_or, slice_get_read}
use Rattle.sync_board.specs.Boards.{Kept}
use Rattle.checkpointed_runs.specs.Whole.{earlier_line, later_line}
use Rattle.run_checkpoint.specs.declared.checkpoint.DecidedRound.{DecidedRound}
use Rattle.run_text.specs.Text.{round_line}

-- one more number
numbers_more : (i : ℕ) → range_with_len 1 (i + 1) ≡ range_with_len 1 i ++ (i + 1) ∷ []
numbers_more i =
    sym (map-id (range_with_len 1 (i + 1)))
    ∙ map-range_with_len_more (λ k. k) 1 i (i + 1) (omega arith)
    ∙ ap (λ l. l ++ (i + 1) ∷ []) (map-id (range_with_len 1 i))

-- one more piece of text, each made of a number from 1 on
pieces_more : (piece : ℕ → List ℕ) (i : ℕ) → flat_map piece (range_with_len 1 (i + 1)) ≡ flat_map piece (range_with_len 1 i) ++ piece (i + 1)
pieces_more piece i =
    ap (flat_map piece) (numbers_more i)
    ∙ flat_map-append piece (range_with_len 1 i) ((i + 1) ∷ [])
    ∙ ap (λ l. flat_map piece (range_with_len 1 i) ++ l) (append-nil (piece (i + 1)))

-- one more piece was written
piece_written : (piece : ℕ → List ℕ) (i : ℕ) (line before start text : List ℕ) → piece (i + 1) ≡ line
    → start ≡ before ++ flat_map piece (range_with_len 1 i) → text ≡ start ++ line → text ≡ before ++ flat_map piece (range_with_len 1 (i + 1))
piece_written piece i line before start text is held written =
    written
    ∙ ap (λ s. s ++ line) held
    ∙ append_assoc before (flat_map piece (range_with_len 1 i)) line
    ∙ ap (λ l. before ++ (flat_map piece (range_with_len 1 i) ++ l)) (sym is)
    ∙ ap (λ lines. before ++ lines) (sym (pieces_more piece i))

-- the line of a round that was decided before
earlier_at : (decided : List DecidedRound) (i : ℕ) (d : DecidedRound) → slice_get decided i ≡ Some d
    → earlier_line decided (i + 1) ≡ round_line (i + 1) d.bottleneck d.moved
earlier_at decided i d is =
    let same : i + 1 - 1 ≡ i = omega arith in
    rw (same, is) refl

-- and of a round of the run
later_at : {A : Type 0} (count : ℕ) (rounds : List (Kept A)) (i : ℕ) (kept : Kept A) → slice_get rounds i ≡ Some kept
    → later_line count rounds (i + 1) ≡ round_line (i + 1 + count) kept.1.division.bottleneck kept.1.moved
later_at count rounds i kept is = rw (add-one, is) refl

-- one more line of those before was written
pub earlier_written : (decided : List DecidedRound) (i : ℕ) (d : DecidedRound) (before start text : List ℕ)
    → i < length decided
    → start ≡ before ++ flat_map (earlier_line decided) (range_with_len 1 i)
    → text ≡ start ++ round_line (i + 1) (get_or decided i d).bottleneck (get_or decided i d).moved
    → text ≡ before ++ flat_map (earlier_line decided) (range_with_len 1 (i + 1))
earlier_written decided i d before start text inside held written =
    piece_written (earlier_line decided) i (round_line (i + 1) (get_or decided i d).bottleneck (get_or decided i d).moved) before start text
    (earlier_at decided i (get_or decided i d) (slice_get-get_or decided i d inside)) held written

-- and one of the run
pub later_written : {A : Type 0} (count : ℕ) (rounds : List (Kept A)) (i : ℕ) (kept : Kept A) (before start text : List ℕ)
    → i < length rounds
    → kept ≡ get_or rounds i kept
    → start ≡ before ++ flat_map (later_line count rounds) (range_with_len 1 i)
    → text ≡ start ++ round_line (i + 1 + count) kept.1.division.bottleneck kept.1.moved
    → text ≡ before ++ flat_map (later_line count rounds) (range_with_len 1 (i + 1))
later_written count rounds i kept before start text inside read held written =
    piece_written (later_line count rounds) i (round_line (i + 1 + count) kept.1.division.bottleneck kept.1.moved) before start text
    (later_at count rounds i kept (slice_get_read rounds (length rounds) i kept refl inside read)) held written
