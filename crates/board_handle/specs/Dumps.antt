-- The dump of a round.
use Rattle.std.specs.Prelude.{◌≡◌, ℕ, List, Some}
use Rattle.sync_board.specs.Boards.{kept_of}
use Rattle.dump_format.specs.Recording.{recorded_of}
use Rattle.dump_format.specs.Text.{IsLbd2}
use Rattle.lb_strategy.specs.declared.decision.Decision.{Decision}
use Rattle.lb_snapshot.specs.Measured.{Taken}
use Rattle.std_heap.specs.declared.Global.{Global}
use Rattle.board_handle.specs.Owning.{BoardView}

-- this is the text, in the format LBD2, of what is kept of a round
pub record IsDump (b : BoardView) (round : ℕ) (text : List ℕ) : Type 0 where
  pub snapshot : Taken
  pub decision : Decision Global
  pub kept : kept_of b.rounds round ≡ Some (snapshot, decision)
  pub spelled : IsLbd2 (record { snapshot = snapshot; recorded = recorded_of snapshot decision }) text
