use Rattle.carried_runs.proofs.carrying.carry_on.Given as goal

abbrev pub ghosts-carry_on_as-H-Openings : goal.ghosts-carry_on_as-H-Openings
ghosts-carry_on_as-H-Openings g a = record { opened = a._opening.now.value.items; pes = a.config.now.pes }

abbrev pub ghosts-carry_on_as-H-BoardStart : goal.ghosts-carry_on_as-H-BoardStart
ghosts-carry_on_as-H-BoardStart g a = record { strategy = a.options.now.strategy; earlier = a.outcome.board.rounds }
