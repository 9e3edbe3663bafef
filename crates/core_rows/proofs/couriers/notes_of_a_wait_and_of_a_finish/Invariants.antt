use Rattle.core_rows.proofs.couriers.notes_of_a_wait_and_of_a_finish.Given as goal

abbrev pub ghosts-owes : goal.ghosts-owes
ghosts-owes g a = record { opened = a.chares.items; pes = 1 }
