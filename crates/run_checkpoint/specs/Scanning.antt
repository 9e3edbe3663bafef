-- What the reader does with a line, step by step. No public clause uses these definitions.
use Rattle.std.specs.Prelude.{◌≡◌, ℕ, ◌+◌, ◌*◌, ◌-◌, Bool, ◌==◌, ◌&&◌, ◌||◌, if◌then◌else◌}
use Rattle.std.specs.Prelude.{List, [], ◌∷◌, ◌++◌, codes, Option, None, Some}
use Rattle.std.specs.Option.{option_and_then}
use Rattle.std.specs.Char.{is_ascii_digit}
use Rattle.run_checkpoint.specs.declared.form.TheConstants.{DIGITS}

-- the bytes after a word that they begin with
abbrev pub behind : List ℕ → List ℕ → Option (List ℕ)
behind [] bytes = Some bytes
behind (c ∷ word) [] = None
behind (c ∷ word) (b ∷ bytes) = if b == c then behind word bytes else None

-- no digit may follow: the number has as many as it may, or is a zero
abbrev pub is_full : ℕ → ℕ → Bool
is_full value digits = (digits == DIGITS) || ((digits == 1) && (value == 0))

-- a number that has this number of digits, and what is after it
abbrev pub whole : ℕ → ℕ → List ℕ → Option (ℕ × List ℕ)
whole value digits rest = if digits == 0 then None else Some (value, rest)

-- the number that goes on after this number of digits of this value
unfoldable pub digits_at : ℕ → ℕ → List ℕ → Option (ℕ × List ℕ)
digits_at value digits [] = whole value digits []
digits_at value digits (b ∷ bytes) =
    if is_ascii_digit b
    then (if is_full value digits then None else digits_at (10 * value + (b - 48)) (digits + 1) bytes)
    else whole value digits (b ∷ bytes)

-- the number after a word, and what is after it
abbrev pub number_at : List ℕ → List ℕ → Option (ℕ × List ℕ)
number_at word bytes = option_and_then (digits_at 0 0) (behind word bytes)

-- a number at the end of a line, and what is after the line
abbrev pub behind_number : ℕ × List ℕ → Option (ℕ × List ℕ)
behind_number n = option_and_then (λ rest. Some (n.0, rest)) (behind (10 ∷ []) n.1)

-- the number of rounds in the first line
abbrev pub head_at : List ℕ → Option (ℕ × List ℕ)
head_at bytes = option_and_then behind_number (number_at (codes "checkpoint ") bytes)

-- the numbers of a line of a round, and what is after the line
pub record RoundLine : Type 0 where
  pub round : ℕ
  pub bottleneck : ℕ
  pub moved : ℕ
  pub rest : List ℕ

abbrev pub behind_moved : ℕ → ℕ → ℕ × List ℕ → Option RoundLine
behind_moved r b m = option_and_then (λ rest. Some (record { round = r; bottleneck = b; moved = m.0; rest = rest })) (behind (10 ∷ []) m.1)

abbrev pub behind_bottleneck : ℕ → ℕ × List ℕ → Option RoundLine
behind_bottleneck r b = option_and_then (behind_moved r b.0) (number_at (codes " moved ") b.1)

abbrev pub behind_round : ℕ × List ℕ → Option RoundLine
behind_round r = option_and_then (behind_bottleneck r.0) (number_at (codes " bottleneck ") r.1)

-- the line of a round at the front of these bytes
abbrev pub round_at : List ℕ → Option RoundLine
round_at bytes = option_and_then behind_round (number_at (codes "round ") bytes)

-- what is read at the front of these bytes: something good, whose text they begin with, and the rest
pub record IsFront {X : Type 0} (Good : X → Type 0) (text : X → List ℕ) (bytes : List ℕ) (x : X) (rest : List ℕ) : Type 0 where
  pub good : Good x
  pub spelled : bytes ≡ text x ++ rest
