-- What follows the first line of a checkpoint. No public clause uses this definition.
use Rattle.std.specs.Prelude.{◌≡◌, ℕ, List, length}
use Rattle.workload.specs.Text.{IsText, workload_text}
use Rattle.run_checkpoint.specs.Text.{CheckpointView, IsWithin, body_text}

-- these bytes are the text of this checkpoint behind its first line, which says this many rounds
pub record IsBody (rounds : ℕ) (bytes : List ℕ) (c : CheckpointView) : Type 0 where
  pub counted : length c.decided ≡ rounds
  pub within : IsWithin c
  pub spelled : bytes ≡ body_text c
  pub workload : IsText c.workload (workload_text c.workload)
