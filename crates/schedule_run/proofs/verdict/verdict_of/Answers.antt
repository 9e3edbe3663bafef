use Rattle.std.proofs.Common.{subst}
use Rattle.rts_core.specs.Worlds.{opening_world}
use Rattle.schedules.specs.Courses.{IsExplored}
use Rattle.schedules.specs.Drawn.{IsDrawn}
use Rattle.schedule_run.proofs.verdict.verdict_of.Goals as goal

pub returns-in-Ok : goal.returns-in-Ok
returns-in-Ok g c =
    let x = c.in-Ok.explored in
    let here = subst (λ cs. IsExplored g.C.Chare.step g.C.Pup.fits g.C.Pup.pack g.C.Pup.unpack cs c.args.schedule.now.pes
    c.args.schedule.now.strategy x) c.in_ok-chares.ensures.value c.in-Ok.ensures.explored in
    let drawn =
    subst (λ cs. IsDrawn g.C.Chare.step g.C.Pup.pack g.C.Pup.unpack c.args.schedule.now.bias c.args.seed (opening_world c.args.schedule.now.pes cs c.args.schedule.now.strategy) x)
    c.in_ok-chares.ensures.value c.in-Ok.ensures.drawn in
    record { verdict = (x, here, drawn, c.in-Ok.ensures.ends, c.fault.ensures.value, c.account.ensures.held) }
