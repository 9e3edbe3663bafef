-- What was read of a checkpoint.
use Rattle.std.proofs.Common.{◌≡◌, ◌⊎◌, inl, inr, ℕ, List, Option, None, Some, Result, Ok, Err}
use Rattle.std.specs.Prelude.{IfSome}
use Rattle.run_checkpoint.specs.Faults.{IsFault}
use Rattle.run_checkpoint.specs.Reading.{IsReadAnswer}
use Rattle.run_checkpoint.specs.Text.{CheckpointView, IsCheckpointText}
use Rattle.run_checkpoint.specs.declared.error.CheckpointError.{CheckpointError}
use Rattle.run_checkpoint.specs.declared.error.CheckpointError.TheVariants as Why

-- where the bytes of the reader are known, they are the text of the checkpoint that was read
pub known_text : (bytes : Option (List ℕ)) (c : CheckpointView) → IfSome bytes (λ all. (Ok c ≡ Err Why.Read) ⊎ IsReadAnswer all (Ok c)) → IfSome bytes (IsCheckpointText c)
known_text None c known = tt
known_text (Some all) c (inl wrong) = absurd (cc)
known_text (Some all) c (inr text) = text

-- an answer that is no checkpoint
abbrev pub failed : CheckpointError → Result CheckpointView CheckpointError
failed e = Err e

-- and otherwise the fault is theirs, or that the reader failed, or that memory was refused
pub known_fault : (bytes : Option (List ℕ)) (e : CheckpointError) → IfSome bytes (λ all. (failed e ≡ failed Why.Read) ⊎ IsReadAnswer all (failed e))
    → IfSome bytes (λ all. (e ≡ Why.Read) ⊎ ((e ≡ Why.OutOfMemory) ⊎ IsFault all e))
known_fault None e known = tt
known_fault (Some all) e (inl is) = inl (cc)
known_fault (Some all) e (inr told) = inr told
