use Rattle.lb_replay.proofs.fault.fault_line.Goals as goal

pub returns-in-Dump : goal.returns-in-Dump
returns-in-Dump g c = record { line = rw c.in-Dump.is c.dump_line.ensures.line }
