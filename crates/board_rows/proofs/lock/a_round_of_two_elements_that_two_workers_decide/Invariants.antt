use Rattle.std.proofs.Common.{[]}
use Rattle.board_rows.proofs.lock.a_round_of_two_elements_that_two_workers_decide.Given as goal
use Rattle.sync_board.specs.declared.strategy.Strategy.TheVariants.{Least}

abbrev pub ghosts-passes : goal.ghosts-passes
ghosts-passes g a = record { elements = 2; pes = 2; strategy = Least; earlier = [] }
