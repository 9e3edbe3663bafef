-- The statuses of the calls.
use Rattle.std.specs.Prelude.{◌≡◌, ◌⊎◌, ℤ, negsuc, Bool, MatchOption}
use Rattle.foreign_chare.specs.Scripts.{Stamp}
use Rattle.pe_state.specs.Pes.{PeView}
use Rattle.rank_calls.specs.Refusals.{refusal, MayFail}
use Rattle.rank_calls.specs.Runs.{Run}
use Rattle.rank_calls.specs.declared.request.CallError.{CallError}
use Rattle.rank_calls.specs.declared.request.CallError.TheVariants.{IsClosed, IsOpen, BadInput, NotEnabled, OutOfMemory, Stranger, TooLong, Worn, BadPack}
use Rattle.rank_calls.specs.declared.request.Request.{Request}

-- why nothing was done
abbrev pub status_of : CallError → ℤ
status_of BadInput = negsuc 0
status_of OutOfMemory = negsuc 1
status_of IsClosed = negsuc 2
status_of IsOpen = negsuc 3
status_of NotEnabled = negsuc 4
status_of Stranger = negsuc 5
status_of TooLong = negsuc 6
status_of Worn = negsuc 7
status_of BadPack = negsuc 8

-- what was not refused has failed
abbrev pub HasFailed : Request → ℤ → Type 0
HasFailed request status = (error : CallError) × MayFail request error × (status ≡ status_of error)

-- The status of a call is that of what is refused. Where nothing is, the call has done something, which its status says, or has failed.
abbrev pub IsStatus : Run → Bool → PeView Stamp → Request → Type 0 → ℤ → Type 0
IsStatus run was pe request done status = MatchOption (refusal run was pe request) (done ⊎ HasFailed request status) (λ error. status ≡ status_of error)
