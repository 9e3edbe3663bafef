use Rattle.rts_run.proofs.running.run_opened.Given as goal

abbrev pub ghosts-run_named : goal.ghosts-run_named
ghosts-run_named g a = record { beginning = a.opened }
