-- Moves that come in pieces.
use Rattle.std.specs.Prelude.{◌≡◌, ℕ, ◌<◌, List, flat_map, All}
use Rattle.chare_index.specs.declared.limits.TheConstants.Limits.{PES}
use Rattle.dump_format.specs.Layout.{Layout, Broken, judge}
use Rattle.dump_format.specs.Fields.{move}
use Rattle.dump_format.specs.Text.{move_text}
use Rattle.dump_format.specs.declared.error.DumpError.{DumpError}

-- moves of the first elements
pub record AreMoves (count : ℕ) (moves : List (ℕ × ℕ × ℕ)) : Type 0 where
  pub elements : All (λ move. move.0 < count) moves
  pub present : All (λ move. move.1 < PES) moves
  pub planned : All (λ move. move.2 < PES) moves

-- the bytes of moves
abbrev pub moves_text : List (ℕ × ℕ × ℕ) → List ℕ
moves_text moves = flat_map move_text moves

-- a move that begins with these bytes breaks a rule, whatever fields follow it
abbrev pub BreaksMove : ℕ → ℕ → List ℕ → DumpError → Type 0
BreaksMove count k bytes e = (next : Layout) → judge (move count k next) bytes ≡ Broken e
