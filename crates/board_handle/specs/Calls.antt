-- What a program asks of a board behind a handle: when a call is refused, and for which reason, the first that applies.
use Rattle.std.specs.Prelude.{◌≡◌, ◌⊎◌, ℕ, ◌+◌, ◌<◌, ◌≤◌, Bool, true, false, Option, None, Some, IfSome, IsSome}
use Rattle.sync_board.specs.Boards.{decision_of, kept_of, place_in}
use Rattle.sync_board.specs.declared.error.BoardError.{BoardError}
use Rattle.sync_board.specs.declared.error.BoardError.TheVariants as Board
use Rattle.sync_board.specs.declared.strategy.Strategy.{Strategy}
use Rattle.sync_board.specs.declared.strategy.Strategy.TheVariants.{Least, Refine}
use Rattle.chare_index.specs.declared.limits.TheConstants.Limits.{ELEMENTS, PES, ROUND}
use Rattle.lb_database.specs.Measuring.{IsComplete, elements}
use Rattle.lb_database.specs.Refusals.{HasNextRound, IsReport}
use Rattle.lb_database.specs.Refusals.{RefusesReport as RefusesMeasured}
use Rattle.lb_database.specs.declared.error.DbError.TheVariants as Db
use Rattle.board_handle.specs.Owning.{BoardView}
use Rattle.board_handle.specs.declared.error.HandleError.{HandleError}
use Rattle.board_handle.specs.declared.error.HandleError.TheVariants.{IsClosed, IsOpen, BadInput, Stranger, WrongRound, Twice, TooLarge, Incomplete, Worn, OutOfMemory, Undecided}

-- the reason of the board
abbrev pub call_error_of : BoardError → HandleError
call_error_of Board.Stranger = Stranger
call_error_of Board.WrongRound = WrongRound
call_error_of Board.Twice = Twice
call_error_of Board.TooLarge = TooLarge
call_error_of Board.Incomplete = Incomplete
call_error_of Board.OutOfMemory = OutOfMemory
call_error_of Board.Worn = Worn

-- Nothing is changed: a handle is open or closed as it was, and an open one has the board that it had.
abbrev pub IsSame : Bool → BoardView → Bool → BoardView → Type 0
IsSame was before is after = (is ≡ was) × (was ≡ true → after ≡ before)

-- how a board is asked to decide: for the least bottleneck, or within a tolerance
abbrev pub strategy_in : Option ℕ → Strategy
strategy_in None = Least
strategy_in (Some tolerance) = Refine tolerance

-- numbers that a board may have
pub record AreCounts (n pes : ℕ) (within : Option ℕ) : Type 0 where
  pub few : n ≤ ELEMENTS
  pub some_pe : 1 ≤ pes
  pub few_pes : pes ≤ PES
  pub tolerance : IfSome within (λ t. t ≤ 1000)

abbrev pub RefusesOpen : Bool → ℕ → ℕ → Option ℕ → HandleError → Type 0
RefusesOpen is n pes within IsOpen = is ≡ true
RefusesOpen is n pes within BadInput = (is ≡ false) × ¬ (AreCounts n pes within)
RefusesOpen is n pes within OutOfMemory = (is ≡ false) × AreCounts n pes within
RefusesOpen is n pes within _ = ⊥

-- all that such a call needs is an open handle
abbrev pub RefusesClosed : Bool → HandleError → Type 0
RefusesClosed is IsClosed = is ≡ false
RefusesClosed is _ = ⊥

-- numbers that a report may have: of a PE of the board, and of a round that there is
abbrev pub AreNumbers : Bool → BoardView → ℕ → ℕ → Type 0
AreNumbers is b round pe = (is ≡ true) × (pe < b.pes) × (round ≤ ROUND)

abbrev pub IsTaken : Bool → BoardView → ℕ → ℕ → ℕ → ℕ → Type 0
IsTaken is b i round bytes pe = AreNumbers is b round pe × IsReport b.database i round bytes

abbrev pub RefusesReport : Bool → BoardView → ℕ → ℕ → ℕ → ℕ → HandleError → Type 0
RefusesReport is b i round bytes pe IsClosed = is ≡ false
RefusesReport is b i round bytes pe BadInput = (is ≡ true) × ((b.pes ≤ pe) ⊎ (ROUND < round))
RefusesReport is b i round bytes pe Stranger = AreNumbers is b round pe × RefusesMeasured b.database i round bytes Db.Stranger
RefusesReport is b i round bytes pe WrongRound = AreNumbers is b round pe × RefusesMeasured b.database i round bytes Db.WrongRound
RefusesReport is b i round bytes pe Twice = AreNumbers is b round pe × RefusesMeasured b.database i round bytes Db.Twice
RefusesReport is b i round bytes pe TooLarge = AreNumbers is b round pe × RefusesMeasured b.database i round bytes Db.TooLarge
RefusesReport is b i round bytes pe _ = ⊥

abbrev pub RefusesFinish : Bool → BoardView → ℕ → HandleError → Type 0
RefusesFinish is b i IsClosed = is ≡ false
RefusesFinish is b i Stranger = (is ≡ true) × (elements b.database ≤ i)
RefusesFinish is b i _ = ⊥

-- only a complete round is decided, and not the last one
abbrev pub RefusesDecision : Bool → BoardView → HandleError → Type 0
RefusesDecision is b IsClosed = is ≡ false
RefusesDecision is b Incomplete = (is ≡ true) × ¬ (IsComplete b.database)
RefusesDecision is b Worn = (is ≡ true) × IsComplete b.database × (b.database.round ≡ ROUND)
RefusesDecision is b OutOfMemory = (is ≡ true) × HasNextRound b.database
RefusesDecision is b _ = ⊥

-- lists of this many entries have room for the cuts and the names of a decision
abbrev pub HaveRoom : BoardView → ℕ → ℕ → Type 0
HaveRoom b cuts names = (b.pes + 1 ≤ cuts) × (b.pes ≤ names)

abbrev pub RefusesBlocks : Bool → BoardView → ℕ → ℕ → ℕ → HandleError → Type 0
RefusesBlocks is b round cuts names IsClosed = is ≡ false
RefusesBlocks is b round cuts names BadInput = (is ≡ true) × ¬ (HaveRoom b cuts names)
RefusesBlocks is b round cuts names Undecided = (is ≡ true) × HaveRoom b cuts names × (decision_of b round ≡ None)
RefusesBlocks is b round cuts names _ = ⊥

abbrev pub RefusesPlace : Bool → BoardView → ℕ → ℕ → HandleError → Type 0
RefusesPlace is b round i IsClosed = is ≡ false
RefusesPlace is b round i Stranger = (is ≡ true) × (elements b.database ≤ i)
RefusesPlace is b round i Undecided = (is ≡ true) × (i < elements b.database) × (place_in b round i ≡ None)
RefusesPlace is b round i _ = ⊥

abbrev pub RefusesDump : Bool → BoardView → ℕ → HandleError → Type 0
RefusesDump is b round IsClosed = is ≡ false
RefusesDump is b round Undecided = (is ≡ true) × (kept_of b.rounds round ≡ None)
RefusesDump is b round OutOfMemory = (is ≡ true) × IsSome (kept_of b.rounds round)
RefusesDump is b round _ = ⊥

-- lists of this many entries have room for what was reported of each element
abbrev pub HaveRoomForAll : BoardView → ℕ → ℕ → ℕ → Type 0
HaveRoomForAll b loads bytes places = (elements b.database ≤ loads) × (elements b.database ≤ bytes) × (elements b.database ≤ places)

abbrev pub RefusesSnapshot : Bool → BoardView → ℕ → ℕ → ℕ → ℕ → HandleError → Type 0
RefusesSnapshot is b round loads bytes places IsClosed = is ≡ false
RefusesSnapshot is b round loads bytes places BadInput = (is ≡ true) × ¬ (HaveRoomForAll b loads bytes places)
RefusesSnapshot is b round loads bytes places Undecided = (is ≡ true) × HaveRoomForAll b loads bytes places × (kept_of b.rounds round ≡ None)
RefusesSnapshot is b round loads bytes places _ = ⊥
