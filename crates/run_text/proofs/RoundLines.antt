-- The lines of the rounds, one after another.
use Rattle.std.proofs.Common.{◌≡◌, ℕ, ◌+◌, ◌<◌, List, [], ◌∷◌, ◌++◌, length, get_or, slice_get, Some, arith, ap, sym, ◌∙◌, append_assoc, add-one, refl}
use Rattle.std.specs.List.{flat_map, range_with_len}
use Rattle.std.proofs.lemmas.Grind.{flat_map-append}
use Rattle.std.proofs.lemmas.List.{append-nil, map-id}
use Rattle.std.proofs.lemmas.List.FromFn.{map-range_with_len_more}
use Rattle.std.proofs.lemmas.Option.{slice_get_read}
use Rattle.sync_board.specs.Boards.{Kept}
use Rattle.run_text.specs.Text.{decided_line, round_line}

-- one more number
numbers_more : (i : ℕ) → range_with_len 1 (i + 1) ≡ range_with_len 1 i ++ (i + 1) ∷ []
numbers_more i =
    sym (map-id (range_with_len 1 (i + 1)))
    ∙ map-range_with_len_more (λ k. k) 1 i (i + 1) (omega arith)
    ∙ ap (λ l. l ++ (i + 1) ∷ []) (map-id (range_with_len 1 i))

-- one more piece of text, each made of a number from 1 on
pieces_more : (piece : ℕ → List ℕ) (i : ℕ) → flat_map piece (range_with_len 1 (i + 1)) ≡ flat_map piece (range_with_len 1 i) ++ piece (i + 1)
pieces_more piece i =
    ap (flat_map piece) (numbers_more i)
    ∙ flat_map-append piece (range_with_len 1 i) ((i + 1) ∷ [])
    ∙ ap (λ l. flat_map piece (range_with_len 1 i) ++ l) (append-nil (piece (i + 1)))

module _ {A : Type 0} (rounds : List (Kept A)) (i : ℕ) where
  -- the line of the round that is kept at an index
  line_at : (kept : Kept A) → slice_get rounds i ≡ Some kept → decided_line rounds (i + 1) ≡ round_line (i + 1) kept.1.division.bottleneck kept.1.moved
  line_at kept is = rw (add-one, is) refl

  -- one more line was written
  pub line_written : (kept : Kept A) (before start text : List ℕ)
      → i < length rounds
      → kept ≡ get_or rounds i kept
      → start ≡ before ++ flat_map (decided_line rounds) (range_with_len 1 i)
      → text ≡ start ++ round_line (i + 1) kept.1.division.bottleneck kept.1.moved
      → text ≡ before ++ flat_map (decided_line rounds) (range_with_len 1 (i + 1))
  line_written kept before start text inside read held written =
      let line = line_at kept (slice_get_read rounds (length rounds) i kept refl inside read) in
      written
      ∙ ap (λ s. s ++ round_line (i + 1) kept.1.division.bottleneck kept.1.moved) held
      ∙ append_assoc before (flat_map (decided_line rounds) (range_with_len 1 i)) (round_line (i + 1) kept.1.division.bottleneck kept.1.moved)
      ∙ ap (λ l. before ++ (flat_map (decided_line rounds) (range_with_len 1 i) ++ l)) (sym line)
      ∙ ap (λ lines. before ++ lines) (sym (pieces_more (decided_line rounds) i))
