-- A workload that is read, before it is run on one thread.
use Rattle.std.specs.Prelude.{◌≡◌, ◌≢◌, ℕ, List, Option, IfSome, Result, Ok, Err}
use Rattle.workload.specs.Text.{WorkloadView, IsText}
use Rattle.workload.specs.declared.error.WorkError.{WorkError}
use Rattle.workload.specs.declared.error.WorkError.TheVariants as Why
use Rattle.workload_run.specs.Driving.{IsRefusal}
use Rattle.workload_run.specs.Telling.{ReportsFault}
use Rattle.workload_run.specs.declared.ended.RunEnd.{RunEnd}

-- The bytes of a reader, where they are known, are the text of the workload, and nothing is written; or the line of their fault
-- is written, or that for refused memory, or a prefix of one.
abbrev pub Reads : Option (List ℕ) → Option (List ℕ) → Option (List ℕ) → Option (List ℕ) → Result WorkloadView RunEnd → Type 0
Reads bytes rest old new (Ok w) = IfSome bytes (IsText w) × (new ≡ old)
Reads bytes rest old new (Err ended) =
    (fault : WorkError) × ((fault ≢ Why.OutOfMemory) → IsRefusal bytes rest fault) × ReportsFault fault old new ended
