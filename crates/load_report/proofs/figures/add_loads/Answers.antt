use Rattle.std.proofs.Common.{◌<◌, length, slice_index, arith}
use Rattle.load_report.proofs.PlacedLoads.{next_load_fits}
use Rattle.load_report.proofs.figures.add_loads.Goals as goal

pub overflow_add-sums : goal.overflow_add-sums
overflow_add-sums c =
    let loads = c.args.loads.now in
    let places = c.args.places.now in
    let i = c.loop-i.i in
    let on : slice_index places i < length c.loop-i.sums = omega (
      arith,
      c.requires.placed.placed i 0 (omega (arith, c.requires.placed.paired, c.loop-i-test.true)),
      c.requires.room,
      c.loop-i.auto.sums,
      c.fill.auto.self,
    ) in
    omega (arith, next_load_fits loads places c.loop-i.sums i (slice_index places i) c.loop-i.invariant c.requires.loads c.loop-i-test.true on)
