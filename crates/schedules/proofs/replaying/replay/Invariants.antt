use Rattle.schedules.proofs.replaying.replay.Given as goal

abbrev pub ghosts-replay_as : goal.ghosts-replay_as
ghosts-replay_as g a = record { opened = a.chares.items; pes = a.schedule.now.pes }
