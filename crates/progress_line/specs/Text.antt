-- The line that says how far a run is, byte by byte.
use Rattle.std.specs.Prelude.{ℕ, ◌*◌, ◌/◌, ◌-◌, ◌^◌, min, max, List, [], ◌∷◌, ◌++◌, length, codes, Option, None, Some}
use Rattle.std.specs.Fmt.{decimal}
use Rattle.std.specs.List.{repeat}
use Rattle.progress_line.specs.declared.text.Standing.{Standing}
use Rattle.progress_line.specs.declared.text.TheConstants.{WIDTH}

-- letters a second, or the greatest number of 64 bits where they are more; less than a millisecond counts as one
abbrev pub rate : ℕ → ℕ → ℕ
rate letters milliseconds = min (letters * 1000 / max milliseconds 1) (2 ^ 64 - 1)

-- of n rounds, where it is known how many there will be
abbrev pub of_text : Option ℕ → List ℕ
of_text None = []
of_text (Some n) = codes " of " ++ decimal n

-- round r of n, X letters executed, Y a second
abbrev pub standing_text : Standing → List ℕ
standing_text s =
    codes "round " ++ (decimal s.round ++ (of_text s.rounds
    ++ (codes ", " ++ (decimal s.executed ++ (codes " letters executed, "
    ++ (decimal (rate s.executed s.milliseconds) ++ codes " a second"))))))

-- back to the start of the line (13), the text, and blanks up to the width, which cover what a longer text has left
-- there
abbrev pub line_text : Standing → List ℕ
line_text s = 13 ∷ (standing_text s ++ repeat (WIDTH - length (standing_text s)) (codes " "))
