use Rattle.std.proofs.Common.{rules}
use Rattle.lb_replay.proofs.verifying.verify_file.Goals as goal

pub returns-in-Ok-clause-opened : goal.returns-in-Ok-clause-opened
returns-in-Ok-clause-opened g c =
    rw c.in-Ok.is (g.R.Read.remaining c.verify_logged-ended.new.reader, c.verify_logged-ended.ensures.ends)

pub returns-in-Err-clause-unopened : goal.returns-in-Err-clause-unopened
returns-in-Err-clause-unopened g c = rw c.in-Err.is (search rules)
