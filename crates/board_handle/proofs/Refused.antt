-- The reasons of a board are those of a call.
use Rattle.std.proofs.Common.{ℕ, true, refl}
use Rattle.sync_board.specs.Refusals.{RefusesDecision as RefusesRound, database_error_of}
use Rattle.sync_board.specs.declared.error.BoardError.{BoardError}
use Rattle.sync_board.specs.declared.error.BoardError.TheVariants.{Stranger, WrongRound, Twice, TooLarge, Incomplete, OutOfMemory, Worn}
use Rattle.lb_database.specs.Refusals.{RefusesReport as RefusesMeasured}
use Rattle.board_handle.specs.Calls.{AreNumbers, RefusesDecision, RefusesReport, call_error_of}
use Rattle.board_handle.specs.Owning.{BoardView}

pub report_refused : (b : BoardView) (i round bytes pe : ℕ) (error : BoardError) → AreNumbers true b round pe
    → RefusesMeasured b.database i round bytes (database_error_of error) → RefusesReport true b i round bytes pe (call_error_of error)
report_refused b i round bytes pe Stranger numbers refused = (numbers, refused)
report_refused b i round bytes pe WrongRound numbers refused = (numbers, refused)
report_refused b i round bytes pe Twice numbers refused = (numbers, refused)
report_refused b i round bytes pe TooLarge numbers refused = (numbers, refused)
report_refused b i round bytes pe Incomplete numbers refused = absurd refused
report_refused b i round bytes pe OutOfMemory numbers refused = absurd refused
report_refused b i round bytes pe Worn numbers refused = absurd refused

pub decision_refused : (b : BoardView) (error : BoardError) → RefusesRound b.database error → RefusesDecision true b (call_error_of error)
decision_refused b Stranger refused = absurd refused
decision_refused b WrongRound refused = absurd refused
decision_refused b Twice refused = absurd refused
decision_refused b TooLarge refused = absurd refused
decision_refused b Incomplete refused = (refl, refused)
decision_refused b OutOfMemory refused = (refl, refused)
decision_refused b Worn refused = (refl, refused.0, refused.1)
