-- When each call of a board is refused, and with which error: the first that applies, in the errors' order.
use Rattle.std.specs.Prelude.{◌≡◌, ℕ, ◌≤◌}
use Rattle.chare_index.specs.declared.limits.TheConstants.Limits.{ROUND}
use Rattle.lb_database.specs.Measuring.{Measured, IsComplete, elements}
use Rattle.lb_database.specs.Refusals.{HasNextRound}
use Rattle.lb_database.specs.declared.error.DbError.{DbError}
use Rattle.sync_board.specs.declared.error.BoardError.{BoardError}
use Rattle.sync_board.specs.declared.error.BoardError.TheVariants.{Stranger, WrongRound, Twice, TooLarge, Incomplete, OutOfMemory, Worn}

-- the reason of the board's database: the numbers are the same
abbrev pub database_error_of : BoardError → DbError
database_error_of Stranger = DbError.Stranger
database_error_of WrongRound = DbError.WrongRound
database_error_of Twice = DbError.Twice
database_error_of TooLarge = DbError.TooLarge
database_error_of Incomplete = DbError.Incomplete
database_error_of OutOfMemory = DbError.OutOfMemory
database_error_of Worn = DbError.Worn

-- only a complete round is decided, and not the last one; otherwise only memory may be refused
abbrev pub RefusesDecision : Measured → BoardError → Type 0
RefusesDecision m Incomplete = ¬ (IsComplete m)
RefusesDecision m Worn = IsComplete m × (m.round ≡ ROUND)
RefusesDecision m OutOfMemory = HasNextRound m
RefusesDecision m _ = ⊥

-- a stranger cannot finish
abbrev pub RefusesFinish : Measured → ℕ → BoardError → Type 0
RefusesFinish m i Stranger = elements m ≤ i
RefusesFinish m i _ = ⊥
