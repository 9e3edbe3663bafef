use Rattle.progress_line.proofs.text.StandingDisplay.fmt.Goals as goal

pub returns-clause-writes : goal.returns-clause-writes
returns-clause-writes g c = rw (← c.letters_a_second-rate.ensures.value) c.write.ensures.writes
