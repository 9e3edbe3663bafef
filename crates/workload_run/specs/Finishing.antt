-- What follows once a workload has run: the dumps of its rounds, and the status.
use Rattle.std.specs.Prelude.{◌≡◌, ℕ, List, [], ◌∷◌, ◌++◌, codes, Option, None, Some, Ok, Err}
use Rattle.lb_snapshot.specs.Measured.{Taken}
use Rattle.streams.specs.Writing.{WritesPrefix}
use Rattle.workload_run.specs.Dumping.{AsksInTurn}
use Rattle.workload_run.specs.Statuses.{status_of}
use Rattle.workload_run.specs.declared.dumps.NotWritten.{NotWritten}
use Rattle.workload_run.specs.declared.ended.RunEnd.{RunEnd}
use Rattle.workload_run.specs.declared.round_dump.DumpFormat.{DumpFormat}

-- the line where a dump was not written
abbrev pub dump_line : List ℕ
dump_line = codes "dump: write failed" ++ 10 ∷ []

-- the status is that of the run, and nothing more was written
abbrev pub IsFinished : RunEnd → Option (List ℕ) → Option (List ℕ) → ℕ → Type 0
IsFinished ended old new status = (status ≡ status_of ended) × (new ≡ old)

-- The dump of each round was written to a file of its own. Where one was not, the status is 5, and the writer has the line
-- for that, or a prefix of it.
abbrev pub FinishesWithDumps : {D : Type 0} → DumpFormat → List ℕ → List (Taken × D) → RunEnd → Option (List (List ℕ))
    → Option (List (List ℕ)) → Option (List ℕ) → Option (List ℕ) → ℕ → Option NotWritten → Type 0
FinishesWithDumps format prefix rounds ended asked_before asked_after old new status None =
    IsFinished ended old new status × AsksInTurn format prefix rounds asked_before asked_after (Ok tt)
FinishesWithDumps format prefix rounds ended asked_before asked_after old new status (Some dump) =
    (status ≡ 5) × WritesPrefix old new dump_line × AsksInTurn format prefix rounds asked_before asked_after (Err dump)
