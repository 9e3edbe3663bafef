-- The one line that is written where no checkpoint was read, or one was not kept.
use Rattle.std.specs.Prelude.{◌≡◌, ◌≢◌, ◌⊎◌, ℕ, List, ◌++◌, codes, Option, Result, Ok, Err, IfSome}
use Rattle.std.specs.Fmt.{decimal}
use Rattle.std.specs.Io.KnownBytes.{Appends}
use Rattle.streams.specs.Writing.{WritesPrefix}
use Rattle.checkpointed_runs.specs.declared.reading.NoCheckpoint.{NoCheckpoint}
use Rattle.checkpointed_runs.specs.declared.reading.NoCheckpoint.TheVariants.{Refused, OutOfMemory, WriteFailed}
use Rattle.run_checkpoint.specs.Faults.{IsFault}
use Rattle.run_checkpoint.specs.Text.{CheckpointView, IsCheckpointText}
use Rattle.run_checkpoint.specs.declared.error.CheckpointError.{CheckpointError}
use Rattle.run_checkpoint.specs.declared.error.CheckpointError.TheVariants as Why
use Rattle.workload_run.specs.Lines.{memory_line, newline}

-- the line of a fault of a checkpoint
abbrev pub checkpoint_line : CheckpointError → List ℕ
checkpoint_line (Why.Form k) = codes "checkpoint: line " ++ decimal k ++ newline
checkpoint_line (Why.Limit k) = codes "checkpoint: limit in line " ++ decimal k ++ newline
checkpoint_line Why.Long = codes "checkpoint: too long" ++ newline
checkpoint_line Why.Read = codes "checkpoint: read failed" ++ newline
checkpoint_line Why.OutOfMemory = memory_line

-- the line where a checkpoint was not kept
abbrev pub not_kept_line : List ℕ
not_kept_line = codes "checkpoint: write failed" ++ newline

-- 3 for a fault of the checkpoint, 5 where memory or the output failed
abbrev pub status_of : NoCheckpoint → ℕ
status_of (Refused fault) = 3
status_of OutOfMemory = 5
status_of WriteFailed = 5

-- this line was written, and it belongs to this end; or a prefix of it was
abbrev pub WritesLine : List ℕ → NoCheckpoint → Option (List ℕ) → Option (List ℕ) → NoCheckpoint → Type 0
WritesLine line unread old new result =
    ((result ≡ unread) × Appends old new line) ⊎ ((result ≡ WriteFailed) × WritesPrefix old new line)

-- the line of a fault of a checkpoint was written, or the line for refused memory, or a prefix of one
abbrev pub ReportsUnread : CheckpointError → Option (List ℕ) → Option (List ℕ) → NoCheckpoint → Type 0
ReportsUnread fault old new result =
    ((fault ≢ Why.OutOfMemory) × WritesLine (checkpoint_line fault) (Refused fault) old new result) ⊎ WritesLine memory_line OutOfMemory old new result

-- Where the bytes of the reader are known, the checkpoint is the one that they are the text of, and nothing was written. Otherwise the
-- fault is that of these bytes, or that the reader failed, or that memory was refused.
abbrev pub ReadsCheckpoint : Option (List ℕ) → Option (List ℕ) → Option (List ℕ) → Result CheckpointView NoCheckpoint → Type 0
ReadsCheckpoint bytes old new (Ok c) = IfSome bytes (IsCheckpointText c) × (new ≡ old)
ReadsCheckpoint bytes old new (Err unread) =
    (e : CheckpointError) × IfSome bytes (λ all. (e ≡ Why.Read) ⊎ ((e ≡ Why.OutOfMemory) ⊎ IsFault all e)) × ReportsUnread e old new unread
