use Rattle.core_rows.proofs.open_worlds.opens_with_couriers.Given as goal

abbrev pub ghosts-opens : goal.ghosts-opens
ghosts-opens g a = record { opened = a.chares.items; pes = a.pes }
