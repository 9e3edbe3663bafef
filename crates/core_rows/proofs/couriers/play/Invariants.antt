use Rattle.core_rows.proofs.couriers.play.Given as goal

abbrev pub ghosts-plays : goal.ghosts-plays
ghosts-plays g a = record { opened = a.chares.items; pes = a.pes }
