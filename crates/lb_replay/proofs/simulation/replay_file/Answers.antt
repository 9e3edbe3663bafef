use Rattle.std.proofs.Common.{rules}
use Rattle.lb_replay.proofs.simulation.replay_file.Goals as goal

pub returns-in-Ok-clause-opened : goal.returns-in-Ok-clause-opened
returns-in-Ok-clause-opened g c =
    rw c.in-Ok.is (g.R.Read.remaining c.simulate_logged-ended.new.reader, c.simulate_logged-ended.ensures.ends)

pub returns-in-Err-clause-unopened : goal.returns-in-Err-clause-unopened
returns-in-Err-clause-unopened g c = rw c.in-Err.is (search rules)
