-- What was written of a run, or in place of one, and the end that was returned for it.
use Rattle.std.specs.Prelude.{◌≡◌, ◌≢◌, ◌⊎◌, ℕ, List, Option}
use Rattle.std.specs.Io.KnownBytes.{Appends}
use Rattle.pe_worker.specs.declared.fault.Fault.{Fault}
use Rattle.streams.specs.Writing.{WritesPrefix}
use Rattle.workload.specs.declared.error.WorkError.{WorkError}
use Rattle.workload.specs.declared.error.WorkError.TheVariants as Why
use Rattle.workload_run.specs.Lines.{fault_line, memory_line}
use Rattle.workload_run.specs.declared.ended.RunEnd.{RunEnd}
use Rattle.workload_run.specs.declared.ended.RunEnd.TheVariants.{Ran, Refused, OutOfMemory, WriteFailed}

-- this text was written and the end is this one, or a prefix of it was
abbrev pub WritesText : List ℕ → RunEnd → Option (List ℕ) → Option (List ℕ) → RunEnd → Type 0
WritesText text ended old new result =
    ((result ≡ ended) × Appends old new text) ⊎ ((result ≡ WriteFailed) × WritesPrefix old new text)

-- the text of what a run left was written, or the line for refused memory, or a prefix of one
abbrev pub TellsOutcome : List ℕ → Option (List ℕ) → Option (List ℕ) → Option Fault → RunEnd → Type 0
TellsOutcome text old new fault result =
    WritesText text (Ran fault) old new result ⊎ WritesText memory_line OutOfMemory old new result

-- the line of a fault of the workload was written, or the line for refused memory, or a prefix of one
abbrev pub ReportsFault : WorkError → Option (List ℕ) → Option (List ℕ) → RunEnd → Type 0
ReportsFault fault old new result =
    ((fault ≢ Why.OutOfMemory) × WritesText (fault_line fault) (Refused fault) old new result) ⊎ WritesText memory_line OutOfMemory old new result

-- the workload was not read
abbrev pub HasUnread : RunEnd → Type 0
HasUnread ended = ended ≡ Refused Why.Read

-- the text or the line was not written
abbrev pub HasUnwritten : RunEnd → Type 0
HasUnwritten ended = ended ≡ WriteFailed
