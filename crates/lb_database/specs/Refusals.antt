-- When each call of the load database is refused, and with which error: the first that applies, in their order.
use Rattle.std.specs.Prelude.{◌≡◌, ◌≢◌, ℕ, ◌<◌, ◌≤◌, IsSome, IsNone}
use Rattle.chare_index.specs.declared.limits.TheConstants.Limits.{ROUND, STATE_BYTES}
use Rattle.lb_database.specs.declared.error.DbError.{DbError}
use Rattle.lb_database.specs.declared.error.DbError.TheVariants.{Stranger, WrongRound, Twice, TooLarge, Incomplete, OutOfMemory, Worn}
use Rattle.lb_database.specs.Measuring.{Measured, elements, report_of, IsComplete}

-- memory may be refused, but only where there is an element
abbrev pub RefusesNew : ℕ → DbError → Type 0
RefusesNew n OutOfMemory = 0 < n
RefusesNew n _ = ⊥

-- nothing is charged to an index that has no element
abbrev pub RefusesCharge : Measured → ℕ → DbError → Type 0
RefusesCharge m i Stranger = elements m ≤ i
RefusesCharge m i _ = ⊥

-- a report that is taken: it is of an element, for this round, the first of that element, and of a size within the limit
pub record IsReport (m : Measured) (i round bytes : ℕ) : Type 0 where
  pub known : i < elements m
  pub for_round : round ≡ m.round
  pub first : IsNone (report_of m i)
  pub fits : bytes ≤ STATE_BYTES

-- any other report is refused for the first of these conditions that does not hold
abbrev pub RefusesReport : Measured → ℕ → ℕ → ℕ → DbError → Type 0
RefusesReport m i round bytes Stranger = elements m ≤ i
RefusesReport m i round bytes WrongRound = (i < elements m) × (round ≢ m.round)
RefusesReport m i round bytes Twice = (i < elements m) × (round ≡ m.round) × IsSome (report_of m i)
RefusesReport m i round bytes TooLarge = (i < elements m) × (round ≡ m.round) × IsNone (report_of m i) × (STATE_BYTES < bytes)
RefusesReport m i round bytes _ = ⊥

-- a snapshot needs every report; then memory may be refused, but only where there is an element
abbrev pub RefusesSnapshot : Measured → DbError → Type 0
RefusesSnapshot m Incomplete = ¬ (IsComplete m)
RefusesSnapshot m OutOfMemory = IsComplete m × (0 < elements m)
RefusesSnapshot m _ = ⊥

-- a complete round has a next one, unless it is the last
abbrev pub HasNextRound : Measured → Type 0
HasNextRound m = IsComplete m × (m.round < ROUND)

abbrev pub RefusesNextRound : Measured → DbError → Type 0
RefusesNextRound m Incomplete = ¬ (IsComplete m)
RefusesNextRound m Worn = IsComplete m × (m.round ≡ ROUND)
RefusesNextRound m _ = ⊥
