-- What a handle owns.
use Rattle.std.specs.Prelude.{Bool}
use base.Fml.{Fml}
use denote.RattleType.{RattleType}
use denote.RawPtr.{Ptr}
use Rattle.std_heap.specs.declared.Global.{Global}
use Rattle.std_heap.specs.contracts.Global as heap
use Rattle.std_heap.specs.contracts.GlobalAllocator.TheImpl.{ghosts}
use Rattle.sync_board.specs.Boards.{BoardState, new_board}
use Rattle.sync_board.specs.declared.strategy.Strategy.TheVariants.{Least}
use Rattle.sync_board.specs.contracts.board.Board as board
use Rattle.loose_box.specs.Owning.{boxed_if}

-- a board whose lists are on the C library's heap, and one to name where there is none
abbrev pub BoardView : Type 0
BoardView = BoardState Global

abbrev pub no_board : BoardView
no_board = new_board 0 1 Least

abbrev pub board_row : RattleType
board_row = board.the_row heap.the_row ghosts

-- an open handle owns a box's memory, with this board in it; a closed one owns nothing
abbrev pub held : Ptr → Bool → BoardView → Fml
held p is_open x = boxed_if board_row p is_open x
