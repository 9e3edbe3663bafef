-- What is printed where no whole report on a file was written.
use Rattle.std.specs.Prelude.{◌≡◌, ℕ, List, ◌++◌, codes, Bool, Option, None, Some}
use Rattle.std.specs.Fmt.{decimal}
use Rattle.dump_format.specs.declared.error.DumpError.{DumpError}
use Rattle.dump_format.specs.declared.error.DumpError.TheVariants.{Count, Flag, Floor, Load, Magic, Move, MoveCount, OutOfMemory, Place, Procs, Read, Short, Size, Target, Trailing, Wide, Write}
use Rattle.streams.specs.Telling.{Tells, fault_line}
use Rattle.lb_replay.specs.Text.{dump_advice}
use Rattle.lb_replay.specs.declared.ended.Ended.{Ended}
use Rattle.lb_replay.specs.declared.ended.Ended.TheVariants.{WriteFailed}

-- what is wrong with a dump, in words
abbrev pub fault_words : DumpError → List ℕ
fault_words Magic = codes "not a dump"
fault_words (Short n) = codes "the dump ends after " ++ decimal n ++ codes " bytes"
fault_words Procs = codes "the number of PEs is out of range"
fault_words Count = codes "too many elements"
fault_words (Size i) = codes "the size of element " ++ decimal i ++ codes " is out of range"
fault_words (Place i) = codes "the place of element " ++ decimal i ++ codes " is out of range"
fault_words Trailing = codes "bytes follow the end"
fault_words Read = codes "reading failed"
fault_words Write = codes "writing failed"
fault_words OutOfMemory = codes "out of memory"
fault_words (Load i) = codes "the load of element " ++ decimal i ++ codes " is out of range"
fault_words Flag = codes "the flag is out of range"
fault_words Target = codes "the target is out of range"
fault_words Floor = codes "the floor is out of range"
fault_words MoveCount = codes "too many moves"
fault_words (Move k) = codes "move " ++ decimal k ++ codes " is out of range"
fault_words (Wide i) = codes "the load of element " ++ decimal i ++ codes " is too great for the format"

-- what to do about it
abbrev pub advice : DumpError → List ℕ
advice Read = codes "give a file with a dump that you may read, or - for the standard input"
advice OutOfMemory = codes "free some, or report on a smaller dump"
advice e = dump_advice e

-- a line of the program about a file
abbrev pub line_about : List ℕ → List ℕ → List ℕ → List ℕ
line_about name what todo = fault_line (codes "lb_report") name (what ++ codes "; " ++ todo)

-- what is said of a fault, followed by the system's reason where there is one
abbrev pub fault_said : DumpError → Option (List ℕ) → List ℕ
fault_said e None = fault_words e
fault_said e (Some reason) = fault_words e ++ (codes ": " ++ reason)

-- why an output failed: the system's reason, or that it takes no byte
abbrev pub output_words : Option (List ℕ) → List ℕ
output_words None = codes "it takes nothing"
output_words (Some reason) = reason

-- What is printed at the end of a report on a file of this name, with the system's reason in these words, if there is one: for
-- a fault of the dump, where memory ran out, and where the output failed. At any other end nothing is printed.
abbrev pub IsTold : List ℕ → Ended → Option (List ℕ) → Option (List ℕ) → Option (List ℕ) → Bool → Type 0
IsTold name (Ended.Dump e) reason old new told =
    Tells (line_about name (fault_said e reason) (advice e)) old new told
IsTold name (Ended.Plan e) reason old new told =
    Tells (line_about name (codes "out of memory") (codes "report on fewer numbers of PEs at a time")) old new told
IsTold name WriteFailed reason old new told =
    Tells (line_about (codes "standard output") (output_words reason) (codes "give it a place that takes all of the report")) old new told
IsTold name _ reason old new told = new ≡ old
