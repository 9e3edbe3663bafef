-- What is asked of files as checkpoints are kept.
use Rattle.std.specs.Prelude.{◌≡◌, ◌⊎◌, ℕ, List, [], ◌∷◌, ◌++◌, Option, Some, None, Result, Ok, Err, ⊤}
use Rattle.run_checkpoint.specs.Text.{CheckpointView, checkpoint_text}

-- What was asked of the files: a new one was made beside the one with this name. Or the new file, which held these bytes, if they are
-- known, was given this name. Or it was removed.
pub data FileRequest : Type 0 where
  Made : List ℕ → FileRequest
  Placed : List ℕ → Option (List ℕ) → FileRequest
  Removed : FileRequest

-- this was asked for too, where it is known what is
abbrev pub AsksFor : Option (List FileRequest) → Option (List FileRequest) → List FileRequest → Type 0
AsksFor None new more = Unit {0}
AsksFor (Some before) None more = ⊥
AsksFor (Some before) (Some after) more = after ≡ before ++ more

-- The new file took the name, and it held these bytes. Or it could not be made; or it was made, and removed, since it could not be
-- written; or it held them, and the system refused to give it the name.
abbrev pub Replaces : {E : Type 0} → List ℕ → List ℕ → Option (List FileRequest) → Option (List FileRequest) → Result ⊤ E → Type 0
Replaces name bytes old now (Ok _) = AsksFor old now (Made name ∷ Placed name (Some bytes) ∷ [])
Replaces name bytes old now (Err _) = AsksFor old now (Made name ∷ [])
    ⊎ (AsksFor old now (Made name ∷ Removed ∷ []) ⊎ AsksFor old now (Made name ∷ Placed name (Some bytes) ∷ []))

-- A checkpoint was written to a new file, which took the name. Where it was not, perhaps nothing was asked for, since memory was refused.
abbrev pub Keeps : {E : Type 0} → List ℕ → CheckpointView → Option (List FileRequest) → Option (List FileRequest) → Result ⊤ E → Type 0
Keeps {E} name c old now (Ok _) = Replaces {E = E} name (checkpoint_text c) old now (Ok tt)
Keeps name c old now (Err e) = (now ≡ old) ⊎ Replaces name (checkpoint_text c) old now (Err e)
