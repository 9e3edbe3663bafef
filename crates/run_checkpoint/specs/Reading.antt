-- What the calls that read a checkpoint return.
use Rattle.std.specs.Prelude.{◌≡◌, ℕ, ◌<◌, ◌≤◌, ◌⊎◌, List, length, Option, Result, Ok, Err}
use Rattle.std.specs.Io.KnownBytes.{IsAtEnd}
use Rattle.run_checkpoint.specs.declared.error.CheckpointError.{CheckpointError}
use Rattle.run_checkpoint.specs.declared.error.CheckpointError.TheVariants.{Form, Limit, Long, Read, OutOfMemory}
use Rattle.run_checkpoint.specs.declared.form.TheConstants.{TEXT_BYTES}
use Rattle.run_checkpoint.specs.declared.whole.TheConstants.{CALLS}
use Rattle.streams.specs.Logs.{HasFailed}
use Rattle.streams.specs.declared.log.CallLog.{CallLog}
use Rattle.run_checkpoint.specs.Faults.{IsBehind, IsFault, IsHead}
use Rattle.run_checkpoint.specs.Text.{CheckpointView, IsCheckpointText, head_line}

-- Only after a good first line memory is needed.
abbrev pub NeedsMemory : List ℕ → Type 0
NeedsMemory bytes = IsBehind IsHead head_line (λ _ _. Unit {0}) bytes

-- what bytes are read as: the checkpoint that they are the text of, or their fault, or out of memory
abbrev pub IsAnswer : List ℕ → Result CheckpointView CheckpointError → Type 0
IsAnswer bytes (Ok c) = IsCheckpointText c bytes
IsAnswer bytes (Err e) = ((e ≡ OutOfMemory) × NeedsMemory bytes) ⊎ IsFault bytes e

-- what the bytes of a reader that did not fail are read as
abbrev pub IsReadAnswer : List ℕ → Result CheckpointView CheckpointError → Type 0
IsReadAnswer bytes (Ok c) = IsCheckpointText c bytes
IsReadAnswer bytes (Err e) = (e ≡ OutOfMemory) ⊎ IsFault bytes e

-- what an error says of the bytes that were read from a reader: that they have it, or that the reader failed before they
-- were too many
abbrev pub IsReadError : List ℕ → CheckpointError → Type 0
IsReadError bytes Read = length bytes ≤ TEXT_BYTES
IsReadError bytes OutOfMemory = Unit {0}
IsReadError bytes e = IsFault bytes e

-- and what a result says of them
abbrev pub IsReading : List ℕ → Result CheckpointView CheckpointError → Type 0
IsReading bytes (Ok c) = IsCheckpointText c bytes
IsReading bytes (Err e) = IsReadError bytes e

-- where a result rests on all bytes, the reader was read to its end
abbrev pub ReadsToItsEnd : Option (List ℕ) → Result CheckpointView CheckpointError → Type 0
ReadsToItsEnd rest (Ok c) = IsAtEnd rest
ReadsToItsEnd rest (Err (Form n)) = IsAtEnd rest
ReadsToItsEnd rest (Err (Limit n)) = IsAtEnd rest
ReadsToItsEnd rest (Err e) = Unit {0}

-- why reading stopped before the end: there were too many bytes, or the reader failed before that, or memory was refused
abbrev pub IsStop : List ℕ → CheckpointError → Type 0
IsStop bytes Long = TEXT_BYTES < length bytes
IsStop bytes Read = length bytes ≤ TEXT_BYTES
IsStop bytes OutOfMemory = Unit {0}
IsStop bytes e = ⊥

-- why the bytes of a reader were not read: by the log of its calls it failed, or was called as often as it may be
abbrev pub ReaderHasFailed : CallLog → Type 0
ReaderHasFailed log = HasFailed CALLS log
