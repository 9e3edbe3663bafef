use Rattle.core_rows.proofs.scripts.a_letter_that_follows_its_element.Given as goal

abbrev pub ghosts-plays : goal.ghosts-plays
ghosts-plays g a = record { opened = a.chares.items; pes = 3 }
