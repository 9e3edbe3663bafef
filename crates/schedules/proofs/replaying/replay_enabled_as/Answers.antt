use Rattle.std.proofs.Common.{subst}
use Rattle.courses.specs.Picks.{PicksUpTo}
use Rattle.rts_core.specs.Worlds.{WorldView, opening_world}
use Rattle.schedules.specs.Endings.{refused_in}
use Rattle.schedules.proofs.Endings.{done_then, list_left, picks_left}
use Rattle.schedules.proofs.replaying.replay_enabled_as.Goals as goal

pub leave-requires : goal.leave-requires
leave-requires g c =
    let ending = c.follow_enabled-ending in
    record { done = done_then g.C.Chare.step g.C.Pup.pack g.C.Chare.refuses g.C.Pup.unpack ending.new.course.world _ _ ending.result ending.ensures.ends }

pub returns-clause-ends : goal.returns-clause-ends
returns-clause-ends g c =
    let ending = c.follow_enabled-ending in
    list_left g.C.Chare.step g.C.Pup.pack g.C.Chare.refuses g.C.Pup.unpack ending.new.course ending.result c.leave.result
    c.leave.ensures.world c.leave.ensures.steps c.leave.ensures.refused c.leave.ensures.fault ending.ensures.ends

pub returns-clause-picks : goal.returns-clause-picks
returns-clause-picks g c =
    let ending = c.follow_enabled-ending in
    let k = ending.new.course in
    let opening : WorldView g.row.C.Denot g.row.A.Denot = opening_world g.H.Openings.pes g.H.Openings.opened c.args.schedule.now.strategy in
    picks_left g.C.Chare.step g.C.Pup.pack g.C.Chare.refuses g.C.Pup.unpack k ending.result c.leave.result opening c.args.events.now
    c.leave.ensures.world c.leave.ensures.steps c.leave.ensures.refused c.leave.ensures.fault
    (subst (λ (w : WorldView g.row.C.Denot g.row.A.Denot). PicksUpTo g.C.Chare.step g.C.Pup.pack g.C.Pup.unpack w c.args.events.now
    (refused_in ending.result) k.steps k.world) c.in_ok-course.ensures.world ending.ensures.picks)
