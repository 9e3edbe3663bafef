use Rattle.workload_run.proofs.driving.drive_file.Goals as goal

pub returns-in-Ok-clause-opened : goal.returns-in-Ok-clause-opened
returns-in-Ok-clause-opened g c =
    rw c.in-Ok.is (g.R.Read.remaining c.drive_watched-driven.new.reader, c.drive_watched-driven.ensures.ends)

pub returns-in-Ok-clause-outcome : goal.returns-in-Ok-clause-outcome
returns-in-Ok-clause-outcome g c =
    rw c.in-Ok.is (g.R.Read.remaining c.drive_watched-driven.new.reader, c.drive_watched-driven.ensures.outcome)
