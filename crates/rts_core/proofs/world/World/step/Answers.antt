use Rattle.rts_core.proofs.WorldAccount.{accounted_at, accounted_decided}
use Rattle.rts_core.proofs.world.World.step.Goals as goal

pub returns-in_default-clause-account : goal.returns-in_default-clause-account
returns-in_default-clause-account g c =
    accounted_decided g.C.Chare.step g.C.Pup.pack g.C.Pup.unpack g.H.Openings.opened g.H.Openings.pes c.args.self.now.board.strategy
    c.args.self.now c.decide.new.self c.decide.result c.decide.ensures.some_pe c.decide.ensures.ok

pub returns-clause-account : goal.returns-clause-account
returns-clause-account g c =
    accounted_at g.C.Chare.step g.C.Pup.pack g.C.Pup.unpack g.H.Openings.opened g.H.Openings.pes c.args.self.now.board.strategy
    c.args.self.now c.step_of.new.self c.args.event c.in-Some.p c.step_of.result c.step_of.ensures.some_pe c.step_of.ensures.ok
