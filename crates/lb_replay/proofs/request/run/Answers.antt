use Rattle.lb_replay.proofs.request.run.Goals as goal

pub returns-in-Replay-clause-opened : goal.returns-in-Replay-clause-opened
returns-in-Replay-clause-opened g c = rw c.in-Replay.is c.replay_file.ensures.opened
