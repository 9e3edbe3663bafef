-- A line that was written, or a prefix of it.
use Rattle.std.proofs.Common.{ℕ, List, length, Bool, true, false, Option, arith, subst, sym}
use Rattle.std.specs.Prelude.{MatchBool}
use Rattle.std.specs.Io.KnownBytes.{Appends}
use Rattle.std.proofs.lemmas.List.{take_all}
use Rattle.streams.specs.Writing.{WritesPrefix}

pub at_most_written : (told : Bool) (old new : Option (List ℕ)) (line : List ℕ) → MatchBool told (Appends old new line) (WritesPrefix old new line) → WritesPrefix old new line
at_most_written true old new line gone = (length line, omega arith, subst (Appends old new) (sym (take_all (length line) line (omega arith))) gone)
at_most_written false old new line part = part
