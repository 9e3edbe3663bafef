use Rattle.std.proofs.Common.{◌≡◌, arith}
use Rattle.speed_partition.proofs.TickSearch.{bounds_ordered, least_from_met}
use Rattle.speed_partition.proofs.threads.least_tried.Goals as goal

pub returns-clause-least : goal.returns-clause-least
returns-clause-least g c =
    let enclosed = c.loop-bounds.invariant.enclosed in
    let met : c.loop-bounds.bounds.low ≡ c.loop-bounds.bounds.high = omega
    (arith, bounds_ordered c.args.chain.now c.args.pes.now c.args.scale c.loop-bounds.bounds.low c.loop-bounds.bounds.high enclosed.stops enclosed.fits) in
    least_from_met c.args.chain.now c.args.pes.now c.args.scale c.loop-bounds.bounds.low c.loop-bounds.bounds.high enclosed met
