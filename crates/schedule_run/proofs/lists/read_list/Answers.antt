use Rattle.schedule_run.proofs.lists.read_list.Goals as goal

pub returns-in-Ok-clause-opened : goal.returns-in-Ok-clause-opened
returns-in-Ok-clause-opened g c =
    rw c.in-Ok.is (g.R.Read.remaining c.read_list_logged-events.new.reader, c.read_list_logged-events.ensures.reads)
