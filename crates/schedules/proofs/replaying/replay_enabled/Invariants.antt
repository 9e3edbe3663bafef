use Rattle.schedules.proofs.replaying.replay_enabled.Given as goal

abbrev pub ghosts-replay_enabled_as : goal.ghosts-replay_enabled_as
ghosts-replay_enabled_as g a = record { opened = a.chares.items; pes = a.schedule.now.pes }
