use Rattle.schedules.proofs.exploring.explore.Given as goal

abbrev pub ghosts-explore_as : goal.ghosts-explore_as
ghosts-explore_as g a = record { opened = a.chares.items; pes = a.schedule.now.pes }
