use Rattle.std.proofs.Common.{◌≡◌, min, max, arith, rules}
use Rattle.speed_certificates.specs.Speeds.{background_of, speed_of}
use Rattle.speed_partition.specs.Ticks.{IsNeeded}
use Rattle.speed_partition.proofs.Openings.{idle_small, totals_more}
use Rattle.speed_partition.proofs.opening.totals_of.Goals as goal

pub loop-pe-preserved : goal.loop-pe-preserved
loop-pe-preserved c =
    let pes = c.args.pes.now in
    let k = c.loop-pe.pe in
    let before = c.loop-pe.invariant in
    let slow : c.min.result ≡ min c.loop-pe.totals.slowest c.speed.result = search rules in
    let idle : c.max.result ≡ max c.loop-pe.totals.idle c.ticks_to.result = search rules in
    let is_needed : IsNeeded (background_of pes k) (speed_of pes k) c.args.scale c.ticks_to.result = rw
    (← c.background.ensures.value, ← c.speed.ensures.value) c.ticks_to.ensures.needed in
    record {
      totals = rw (slow, idle, c.from.ensures, c.from-in-loop-pe.ensures, c.background.ensures.value, c.speed.ensures.value)
          (totals_more pes c.args.scale k c.ticks_to.result c.loop-pe.totals c.requires.scale.are (omega arith) before.totals is_needed);
      light = omega (arith, before.light, c.from.ensures, c.background.ensures.small);
      slow = omega (arith, before.slow, c.from-in-loop-pe.ensures, c.speed.ensures.small);
      some_speed = omega (arith, before.some_speed, c.from-in-loop-pe.ensures, c.speed.ensures.some);
      some_slowest = omega (arith, slow, before.some_slowest, c.speed.ensures.some);
      soon = omega (
        arith,
        idle,
        before.soon,
        c.ticks_to.ensures.small,
        c.background.ensures.small,
        idle_small c.background.result c.args.scale
            c.background.ensures.small c.requires.scale.small,
      );
    }
