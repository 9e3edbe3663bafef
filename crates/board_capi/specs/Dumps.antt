-- A dump that is written into a list.
use Rattle.std.specs.Prelude.{◌≡◌, ◌⊎◌, ℕ, ◌<◌, ◌≤◌, List, length, take, ℤ, pos}
use Rattle.board_handle.specs.Dumps.{IsDump}
use Rattle.board_handle.specs.Owning.{BoardView}
use Rattle.board_handle.specs.declared.error.HandleError.{HandleError}
use Rattle.board_capi.specs.Statuses.{status_of}

-- this many bytes of a list are the dump of a round
pub record IsWritten (b : BoardView) (round : ℕ) (text : List ℕ) (len : ℕ) : Type 0 where
  pub inside : len ≤ length text
  pub dump : IsDump b round (take len text)

-- the dump of a round has this many bytes, more than there is room for
pub record IsLonger (b : BoardView) (round room len : ℕ) : Type 0 where
  pub text : List ℕ
  pub dump : IsDump b round text
  pub counted : len ≡ length text
  pub past : room < len

-- A call answers 0 where it has written, 2 where there is too little room, and otherwise the status of the reason for which it is refused.
abbrev pub IsDumpStatus : Type 0 → Type 0 → (HandleError → Type 0) → ℤ → Type 0
IsDumpStatus written longer refused status =
    ((status ≡ pos 0) × written) ⊎ (((status ≡ pos 2) × longer) ⊎ ((error : HandleError) × (status ≡ status_of error) × refused error))
