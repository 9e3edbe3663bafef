use Rattle.std.proofs.Common.{refl}
use Rattle.sync_board.proofs.Finished.{count_all}
use Rattle.sync_board.proofs.Rounds.{board_new}
use Rattle.sync_board.proofs.board.Board.with_strategy.Goals as goal

pub invariant_of-result : goal.invariant_of-result
invariant_of-result g c =
    rw (c.of-pes.ensures.value, c.in-Ok.ensures.made, c.new-2.ensures.items, c.new-3.ensures.items, c.in_ok-all_running.ensures.items)
    (board_new g.row.A.Denot c.args.n c.args.pes c.args.strategy c.requires.some_pe c.requires.few_pes, count_all c.args.n)

pub returns-clause-made : goal.returns-clause-made
returns-clause-made g c =
    rw (c.of-pes.ensures.value, c.in-Ok.ensures.made, c.new-2.ensures.items, c.new-3.ensures.items, c.in_ok-all_running.ensures.items) refl
