-- What the log of the calls of a reader or a writer has, and what that shows.
use Rattle.std.specs.Prelude.{◌≡◌, ◌≢◌, ◌⊎◌, ℕ, ◌+◌, ◌-◌, ◌^◌, ◌<◌, ◌≤◌, min, List, length, Bool, true, None, Result, Ok, Err}
use Rattle.streams.specs.declared.log.CallLog.{CallLog}

-- one more call, up to the greatest number that is counted
abbrev pub Counts : ℕ → ℕ → Type 0
Counts old new = new ≡ min (old + 1) (2 ^ 64 - 1)

-- whether nothing was taken, after a write of these bytes
abbrev pub LogsLength : {E : Type 0} → Result ℕ E → List ℕ → Bool → Bool → Type 0
LogsLength (Ok n) bytes old new = (n ≡ 0 → 0 < length bytes → new ≡ true) × ((0 < n) ⊎ (length bytes ≡ 0) → new ≡ old)
LogsLength (Err e) bytes old new = new ≡ old

-- the reader has failed, or was called this many times
abbrev pub HasFailed : ℕ → CallLog → Type 0
HasFailed limit log = (log.failure ≢ None) ⊎ (limit ≤ log.reads)

-- the writer has failed, or has taken nothing
abbrev pub HasRefused : CallLog → Type 0
HasRefused log = (log.failure ≢ None) ⊎ (log.took_none ≡ true)

-- nothing was added to the log but calls that succeeded
abbrev pub HasSucceeded : CallLog → CallLog → Type 0
HasSucceeded old new = (new.failure ≡ old.failure) × (new.took_none ≡ old.took_none)
