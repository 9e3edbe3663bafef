-- A decision that is refused, in some state of a board of a run: what holds of a call that takes the lock first.
use Rattle.std.specs.Prelude.{◌≡◌, ℕ}
use Rattle.sync_board.specs.Refusals.{RefusesDecision}
use Rattle.sync_board.specs.declared.error.BoardError.{BoardError}
use Rattle.lb_database.specs.Measuring.{Measured, elements}

-- what a board of this many elements had measured when it refused a decision with this error
pub record IsRefusedDecision (n : ℕ) (error : BoardError) : Type 0 where
  pub measured : Measured
  pub counted : elements measured ≡ n
  pub refused : RefusesDecision measured error
