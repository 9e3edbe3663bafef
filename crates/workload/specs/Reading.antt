-- What the calls that read a workload return.
use Rattle.std.specs.Prelude.{◌≡◌, ℕ, ◌≤◌, ◌⊎◌, false, List, [], ◌++◌, length, Option, Result, Ok, Err}
use Rattle.std.specs.Io.KnownBytes.{IsAtEnd}
use Rattle.workload.specs.declared.error.WorkError.{WorkError}
use Rattle.workload.specs.declared.error.WorkError.TheVariants.{Form, Limit, Read, OutOfMemory}
use Rattle.workload.specs.declared.form.TheConstants.{TEXT_BYTES}
use Rattle.workload.specs.declared.reading.TheConstants.{CALLS}
use Rattle.streams.specs.Logs.{HasFailed}
use Rattle.streams.specs.declared.log.CallLog.{CallLog}
use Rattle.workload.specs.Text.{WorkloadView, IsText}
use Rattle.workload.specs.Faults.{is_whole, AreLines, lines_text, IsFault}

-- After four good lines, and perhaps more, there has to be the line of a round. Only such bytes need memory.
pub record NeedsMemory (bytes : List ℕ) : Type 0 where
  pub lines : List (List ℕ)
  pub rest : List ℕ
  pub good : AreLines [] lines
  pub spelled : bytes ≡ lines_text [] lines ++ rest
  pub head : 4 ≤ length lines
  pub more : is_whole lines ≡ false

-- what bytes are read as: the workload that they are the text of, or their fault, or out of memory
abbrev pub IsAnswer : List ℕ → Result WorkloadView WorkError → Type 0
IsAnswer bytes (Ok w) = IsText w bytes
IsAnswer bytes (Err e) = ((e ≡ OutOfMemory) × NeedsMemory bytes) ⊎ IsFault bytes e

-- what the bytes of a reader that did not fail are read as
abbrev pub IsReadAnswer : List ℕ → Result WorkloadView WorkError → Type 0
IsReadAnswer bytes (Ok w) = IsText w bytes
IsReadAnswer bytes (Err e) = (e ≡ OutOfMemory) ⊎ IsFault bytes e

-- what an error says of the bytes that were read from a reader: that they have it, or that the reader failed before they
-- were too many
abbrev pub IsReadError : List ℕ → WorkError → Type 0
IsReadError bytes Read = length bytes ≤ TEXT_BYTES
IsReadError bytes OutOfMemory = Unit {0}
IsReadError bytes e = IsFault bytes e

-- and what a result says of them
abbrev pub IsReading : List ℕ → Result WorkloadView WorkError → Type 0
IsReading bytes (Ok w) = IsText w bytes
IsReading bytes (Err e) = IsReadError bytes e

-- where the fault is that of a line, the reader was read to its end
abbrev pub EndsAt : Option (List ℕ) → WorkError → Type 0
EndsAt rest (Form n) = IsAtEnd rest
EndsAt rest (Limit n) = IsAtEnd rest
EndsAt rest e = Unit {0}

-- and so it was where the result is a workload
abbrev pub ReadsToItsEnd : Option (List ℕ) → Result WorkloadView WorkError → Type 0
ReadsToItsEnd rest (Ok w) = IsAtEnd rest
ReadsToItsEnd rest (Err e) = EndsAt rest e

-- why the bytes of a reader were not read: by the log of its calls it failed, or was called as often as it may be
abbrev pub ReaderHasFailed : CallLog → Type 0
ReaderHasFailed log = HasFailed CALLS log
