-- A whole checkpoint from bytes.
use Rattle.std.proofs.Common.{◌≡◌, ℕ, ◌<◌, ◌≤◌, ◌⊎◌, inl, inr, List, ◌++◌, length, Result, Ok, Err, sym, ap, ◌∙◌, refl}
use Rattle.std.specs.Prelude.{MatchResult}
use Rattle.run_checkpoint.specs.declared.error.CheckpointError.{CheckpointError}
use Rattle.run_checkpoint.specs.declared.error.CheckpointError.TheVariants.{Long, OutOfMemory}
use Rattle.run_checkpoint.specs.declared.form.TheConstants.{TEXT_BYTES}
use Rattle.run_checkpoint.specs.Text.{CheckpointView, IsCheckpointText, body_text, head_line}
use Rattle.run_checkpoint.specs.Bodies.{IsBody}
use Rattle.run_checkpoint.specs.Faults.{IsBadHead, IsFault, IsHead}
use Rattle.run_checkpoint.specs.Reading.{IsAnswer}
use Rattle.run_checkpoint.specs.Scanning.{IsFront}
use Rattle.run_checkpoint.proofs.BodyParts.{IsNoBody}
use Rattle.run_checkpoint.proofs.TextLaws.{answered, refused}

-- what a result says of bytes, in all clauses
pub record Said (bytes : List ℕ) (result : Result CheckpointView CheckpointError) : Type 0 where
  pub answer : IsAnswer bytes result
  pub again : (c : CheckpointView) → IsCheckpointText c bytes → MatchResult result (λ d. d ≡ c) (λ e. e ≡ OutOfMemory)
  pub first : (e : CheckpointError) → IsFault bytes e → MatchResult result (λ _. ⊥) (λ f. (f ≡ OutOfMemory) ⊎ (f ≡ e))

pub said : (bytes : List ℕ) (result : Result CheckpointView CheckpointError) → IsAnswer bytes result → Said bytes result
said bytes result answer = record { answer = answer; again = answered bytes result answer; first = refused bytes result answer }

pub long_said : (bytes : List ℕ) → TEXT_BYTES < length bytes → Said bytes (Err Long)
long_said bytes long = said bytes (Err Long) (inr (inl (refl, long)))

-- the first line has a fault
pub head_said : (bytes : List ℕ) (e : CheckpointError) → length bytes ≤ TEXT_BYTES → IsBadHead bytes e → Said bytes (Err e)
head_said bytes e short bad = said bytes (Err e) (inr (inr (short, inl bad)))

-- what is behind the first line is read
pub body_said : (bytes : List ℕ) (rounds : ℕ) (rest : List ℕ) (result : Result CheckpointView CheckpointError) → length bytes ≤ TEXT_BYTES
    → IsFront IsHead head_line bytes rounds rest → MatchResult result (λ c. IsBody rounds rest c) (λ e. IsNoBody rounds rest e) → Said bytes result
body_said bytes rounds rest (Ok c) short front is =
    said bytes (Ok c) (record {
      spelled = front.spelled ∙ ap (λ t. head_line rounds ++ t) is.spelled ∙ ap (λ n. head_line n ++ body_text c) (sym is.counted);
      within = is.within;
      workload = is.workload;
    })
body_said bytes rounds rest (Err e) short front (inl none) =
    said bytes (Err e) (inl (none, record { value = rounds; rest = rest; good = front.good; spelled = front.spelled; next = tt }))
body_said bytes rounds rest (Err e) short front (inr bad) =
    said bytes (Err e) (inr (inr (short, inr (record { value = rounds; rest = rest; good = front.good; spelled = front.spelled; next = bad }))))
