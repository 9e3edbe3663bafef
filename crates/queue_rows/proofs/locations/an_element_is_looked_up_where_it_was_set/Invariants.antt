use Rattle.queue_rows.proofs.locations.an_element_is_looked_up_where_it_was_set.Given as goal

abbrev pub ghosts-moved : goal.ghosts-moved
ghosts-moved g a = record { pes = a.pes }
