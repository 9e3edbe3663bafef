use Rattle.std.proofs.Common.{[]}
use Rattle.rts_run.proofs.running.run_watched.Given as goal

abbrev pub ghosts-run_as-H-Openings : goal.ghosts-run_as-H-Openings
ghosts-run_as-H-Openings g a = record { opened = a.chares.items; pes = a.config.now.pes }

abbrev pub ghosts-run_as-H-BoardStart : goal.ghosts-run_as-H-BoardStart
ghosts-run_as-H-BoardStart g a = record { strategy = a.options.now.strategy; earlier = [] }
