use Rattle.checkpointed_runs.proofs.reading.read_checkpoint.Goals as goal

pub returns-in-Ok-clause-opened : goal.returns-in-Ok-clause-opened
returns-in-Ok-clause-opened g c =
    rw c.in-Ok.is (rw c.new-noted.ensures.inner at c.read_from-checkpoint.ensures.read)
