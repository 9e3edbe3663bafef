use Rattle.std.proofs.Common.{◌*◌, ◌<◌, arith, refl}
use Rattle.speed_certificates.specs.Speeds.{background_of, speed_of}
use Rattle.speed_certificates.proofs.Flawless.{first_by_number, of_idle, right_idle}
use Rattle.speed_certificates.specs.declared.flaw.TimeFlaw.TheVariants.{IdleEarly}
use Rattle.speed_certificates.proofs.speed_check.check_idle.Goals as goal

pub returns-then-ends_before-clause-first_flaw : goal.returns-then-ends_before-clause-first_flaw
returns-then-ends_before-clause-first_flaw g c =
    let loads = c.args.loads.now in
    let pes = c.args.pes.now in
    let d = c.args.division.now in
    let early : background_of pes c.args.pe * d.time.speed < d.time.work * speed_of pes c.args.pe = rw (← c.background.ensures.value, ← c.speed.ensures.value, ← c.from-work.ensures)
    (c.ends_before.ensures.0 c.if-ends_before.true) in
    first_by_number loads pes d IdleEarly refl (of_idle d.floor c.args.pe _ _ c.requires.idle (omega arith, early))
    (right_idle loads pes d c.args.pe 8 (omega arith) c.requires.some_speed c.requires.divides c.requires.none_late c.requires.idle (λ _. omega arith))
