use Rattle.std.proofs.Common.{rules}
use Rattle.lb_replay.proofs.ended.Ended.status.Goals as goal

pub returns-in-Dump : goal.returns-in-Dump
returns-in-Dump c = record { value = rw c.in-Dump.is (search rules) }
