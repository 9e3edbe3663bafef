-- The statuses of the calls.
use Rattle.std.specs.Prelude.{◌≡◌, ◌⊎◌, ℤ, pos, negsuc}
use Rattle.board_handle.specs.declared.error.HandleError.{HandleError}
use Rattle.board_handle.specs.declared.error.HandleError.TheVariants.{IsClosed, IsOpen, BadInput, Stranger, WrongRound, Twice, TooLarge, Incomplete, Worn, OutOfMemory, Undecided}

-- why nothing was done
abbrev pub status_of : HandleError → ℤ
status_of Undecided = pos 1
status_of BadInput = negsuc 0
status_of OutOfMemory = negsuc 1
status_of IsClosed = negsuc 2
status_of IsOpen = negsuc 3
status_of Incomplete = negsuc 4
status_of Stranger = negsuc 5
status_of TooLarge = negsuc 6
status_of Worn = negsuc 7
status_of WrongRound = negsuc 10
status_of Twice = negsuc 11

-- A call answers 0 where this holds, and otherwise the status of the reason for which it is refused.
abbrev pub IsStatus : Type 0 → (HandleError → Type 0) → ℤ → Type 0
IsStatus done refused status = ((status ≡ pos 0) × done) ⊎ ((error : HandleError) × (status ≡ status_of error) × refused error)

-- A question is answered by 1 for yes and 0 for no, and by -3 where the handle is closed.
abbrev pub IsAnswer : Type 0 → Type 0 → ℤ → Type 0
IsAnswer closed so status = ((status ≡ pos 1) × so) ⊎ (((status ≡ pos 0) × ¬ so) ⊎ ((status ≡ negsuc 2) × closed))
