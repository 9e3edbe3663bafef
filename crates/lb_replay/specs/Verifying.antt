-- How a check of a recorded decision ends, and what its writer has then.
use Rattle.std.specs.Prelude.{◌≡◌, ℕ, ◌⊎◌, List, Option, None, IfSome, MatchOption}
use Rattle.std.specs.Io.KnownBytes.{Appends, IsAtEnd}
use Rattle.dump_format.specs.Dumps.{Dumped}
use Rattle.dump_format.specs.Faults.{IsFault}
use Rattle.dump_format.specs.Text.{IsText}
use Rattle.dump_format.specs.declared.error.DumpError.{DumpError}
use Rattle.lb_strategy.specs.Decisions.{IsFirstFlaw, IsRight}
use Rattle.streams.specs.Writing.{WritesPrefix}
use Rattle.lb_replay.specs.Simulation.{IsReadFault}
use Rattle.lb_replay.specs.Text.{dump_line, flaw_line, memory_line, no_decision_line, right_line}
use Rattle.lb_replay.specs.declared.ended.Ended.{Ended}
use Rattle.lb_replay.specs.declared.ended.Ended.TheVariants.{Printed, Dump, Flawed, NoDecision, WriteFailed}

-- the judgement of the decision of a dump: it is right for the snapshot and its target, or this is its first flaw, or the dump
-- has none
abbrev pub IsJudged : {A : Type 0} → Dumped A → Ended → Type 0
IsJudged d Printed = MatchOption d.recorded ⊥ (λ r. IsRight d.snapshot.loads d.snapshot.sizes r.target r.decision)
IsJudged d (Flawed flaw) = MatchOption d.recorded ⊥ (λ r. IsFirstFlaw d.snapshot.loads d.snapshot.sizes r.target r.decision flaw)
IsJudged d NoDecision = d.recorded ≡ None
IsJudged d _ = ⊥

-- The one line of an end. A check makes no plan, so it never ends with a fault of one.
abbrev pub check_line : Ended → List ℕ
check_line Printed = right_line
check_line (Dump e) = dump_line e
check_line (Flawed flaw) = flaw_line flaw
check_line NoDecision = no_decision_line
check_line _ = memory_line

-- What is found in a reader that had `bytes` before, and has `rest` after: a fault, or the judgement of the decision of the
-- dump that the bytes are a text of. Where the reader does not report its bytes, it is so for some dump.
abbrev pub Finds : (A : Type 0) → Option (List ℕ) → Option (List ℕ) → Ended → Type 0
Finds A bytes rest (Dump e) = IsReadFault bytes rest e
Finds A bytes rest ended = IsAtEnd rest × ((d : Dumped A) × IfSome bytes (IsText d) × IsJudged d ended)

-- what the writer has after each end: the line of what was found, or a prefix of it
abbrev pub EndsCheck : (A : Type 0) → Option (List ℕ) → Option (List ℕ) → Option (List ℕ) → Option (List ℕ) → Ended → Type 0
EndsCheck A bytes rest old new WriteFailed =
    (found : Ended) × Finds A bytes rest found × WritesPrefix old new (check_line found)
EndsCheck A bytes rest old new ended = Finds A bytes rest ended × Appends old new (check_line ended)

-- what these bytes alone determine: their first fault, or the judgement of the decision of the dump that they are a text of
abbrev pub IsEnd : (A : Type 0) → List ℕ → Ended → Type 0
IsEnd A bytes (Dump e) = IsFault bytes e
IsEnd A bytes ended = (d : Dumped A) × IsText d bytes × IsJudged d ended

-- memory, the reader or the writer failed
abbrev pub IsFailure : Ended → Type 0
IsFailure ended = (ended ≡ Dump DumpError.OutOfMemory) ⊎ ((ended ≡ Dump DumpError.Read) ⊎ (ended ≡ WriteFailed))
