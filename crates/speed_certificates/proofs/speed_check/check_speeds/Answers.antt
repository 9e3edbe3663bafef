use Rattle.std.proofs.Common.{◌≤◌, arith}
use Rattle.std.proofs.lemmas.Result.{on_ok_weaker}
use Rattle.speed_certificates.proofs.LeastTimes.{least_from_certified}
use Rattle.speed_certificates.proofs.speed_check.check_speeds.Goals as goal

pub returns-clause-least : goal.returns-clause-least
returns-clause-least g c =
    let loads = c.args.loads.now in
    let pes = c.args.pes.now in
    let division = c.args.division.now in
    let some : 1 ≤ division.time.speed = omega (arith, c.if-division-eq0.false) in
    on_ok_weaker c.check_floor.result (λ floor. least_from_certified loads pes division c.check_cuts.ensures.pes
    (record { some_speed = some; divides = c.in_ok-check_cuts.ensures.divides; none_late = c.in_ok-check_blocks.ensures.none_late; floor_holds = floor }))
    c.check_floor.ensures.holds
