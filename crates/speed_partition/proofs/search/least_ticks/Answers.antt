use Rattle.std.proofs.Common.{◌≡◌, ◌^◌, ◌≤◌, arith}
use Rattle.speed_partition.specs.Search.{Enclose}
use Rattle.speed_partition.proofs.TickSearch.{bounds_ordered, least_from_met}
use Rattle.speed_partition.proofs.search.least_ticks.Goals as goal
use Rattle.speed_partition.proofs.search.least_ticks.Goals.{in-Fits, in-Stops}

pub overflow_sub-ticks : goal.overflow_sub-ticks
overflow_sub-ticks g c =
    let before = c.loop-low.invariant in
    let enclosed : Enclose c.args.chain.now c.args.pes.now c.args.scale c.match-bound_within.low c.match-bound_within.high = elim c.match-bound_within.branch [
      | in-Fits w ↦ rw (w.low-is, w.high-is) (record { stops = before.enclosed.stops; fits = w.in-Fits.ensures.shows.1 })
      | in-Stops w ↦ rw (w.low-is, w.high-is) (record { stops = w.in-Stops.ensures.shows.1; fits = before.enclosed.fits })
    ] in
    bounds_ordered c.args.chain.now c.args.pes.now c.args.scale c.match-bound_within.low c.match-bound_within.high enclosed.stops enclosed.fits

pub loop-low-preserved : goal.loop-low-preserved
loop-low-preserved g c =
    let before = c.loop-low.invariant in
    let enclosed : Enclose c.args.chain.now c.args.pes.now c.args.scale c.match-bound_within.low c.match-bound_within.high = elim c.match-bound_within.branch [
      | in-Fits w ↦ rw (w.low-is, w.high-is) (record { stops = before.enclosed.stops; fits = w.in-Fits.ensures.shows.1 })
      | in-Stops w ↦ rw (w.low-is, w.high-is) (record { stops = w.in-Stops.ensures.shows.1; fits = before.enclosed.fits })
    ] in
    let few : c.match-bound_within.high ≤ 2 ^ 107 = elim c.match-bound_within.branch [
      | in-Fits w ↦ omega (arith, w.high-is, w.in-Fits.ensures.shows.0, before.few, before.below c.loop-low-test.true)
      | in-Stops w ↦ omega (arith, w.high-is, before.few)
    ] in
    let idle : c.args.bounds.idle ≤ c.match-bound_within.low = elim c.match-bound_within.branch [
      | in-Fits w ↦ omega (arith, w.low-is, before.idle)
      | in-Stops w ↦ omega (arith, w.low-is, w.in-Stops.ensures.shows.0, before.idle, before.from)
    ] in
    let ordered : c.match-bound_within.low ≤ c.match-bound_within.high = bounds_ordered c.args.chain.now c.args.pes.now
    c.args.scale c.match-bound_within.low c.match-bound_within.high enclosed.stops enclosed.fits in
    record { enclosed = enclosed; few = few; idle = idle; from = omega arith; below = λ apart. omega arith }

pub returns-clause-least : goal.returns-clause-least
returns-clause-least g c =
    let enclosed = c.loop-low.invariant.enclosed in
    let met : c.loop-low.low ≡ c.loop-low.high = omega (
      arith,
      bounds_ordered c.args.chain.now c.args.pes.now c.args.scale
          c.loop-low.low c.loop-low.high enclosed.stops enclosed.fits,
    ) in
    least_from_met c.args.chain.now c.args.pes.now c.args.scale c.loop-low.low c.loop-low.high enclosed met
