use Rattle.placed_runs.proofs.opening.placed_outcome.Given as goal

abbrev pub ghosts-outcome_as : goal.ghosts-outcome_as
ghosts-outcome_as g a = record { opened = a.chares.items; pes = a.pes }
