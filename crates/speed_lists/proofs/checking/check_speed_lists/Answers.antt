use Rattle.speed_lists.specs.Lists.{pes_of}
use Rattle.speed_lists.proofs.ListedTimes.{exact_for}
use Rattle.speed_lists.proofs.checking.check_speed_lists.Goals as goal

pub returns-clause-exact : goal.returns-clause-exact
returns-clause-exact g c =
    let checked = c.check_speeds.ensures in
    exact_for c.args.loads.now (pes_of c.args.speeds.now c.args.background.now) c.in-Some.pes c.args.time c.args.cuts.now c.args.stops.now c.args.idle
    c.in_ok-division.division c.check_speeds.result c.err.result c.in-Some.ensures.made.1 c.in_ok-division.ensures c.err.ensures.value
    checked.exact checked.first_flaw
