use Rattle.std.proofs.Common.{◌∙◌, sym}
use Rattle.load_report.specs.Figures.{moving, present_places}
use Rattle.load_report.proofs.Placements.{present_placed}
use Rattle.load_report.proofs.Traffics.{also_placed, moving_len, moving_loads}
use Rattle.load_report.proofs.traffic.Traffic.of.Goals as goal

pub greatest_load-requires-clause-loads : goal.greatest_load-requires-clause-loads
greatest_load-requires-clause-loads g c =
    rw (c.deref.ensures.value, c.in_ok-bytes.ensures, c.as_slice.ensures.value) (moving_loads c.sizes.result.now c.args.places.now c.as_slice.ensures.within_limits)

pub greatest_load-requires-clause-placed : goal.greatest_load-requires-clause-placed
greatest_load-requires-clause-placed g c =
    let s = c.args.snapshot.now in
    rw (
      c.deref.ensures.value,
      c.in_ok-bytes.ensures,
      c.as_slice.ensures.value,
      c.sizes.ensures.value,
      c.deref-2.ensures.value,
      c.in_ok-present.ensures.value,
      c.procs.ensures.value,
    )
    (also_placed s.loads (moving s.sizes c.args.places.now) (present_places s.sizes) s.procs (present_placed s.procs s.loads s.sizes c.procs.ensures.consistent)
    (moving_len s.sizes c.args.places.now ∙ sym c.sizes.ensures.paired))

pub greatest_load-requires-2-clause-loads : goal.greatest_load-requires-2-clause-loads
greatest_load-requires-2-clause-loads g c =
    rw (c.deref-3.ensures.value, c.in_ok-bytes.ensures, c.as_slice.ensures.value) (moving_loads c.sizes.result.now c.args.places.now c.as_slice.ensures.within_limits)

pub greatest_load-requires-2-clause-placed : goal.greatest_load-requires-2-clause-placed
greatest_load-requires-2-clause-placed g c =
    let s = c.args.snapshot.now in
    rw (c.deref-3.ensures.value, c.in_ok-bytes.ensures, c.as_slice.ensures.value, c.sizes.ensures.value)
    (also_placed s.loads (moving s.sizes c.args.places.now) c.args.places.now c.args.pes c.requires (moving_len s.sizes c.args.places.now ∙ sym c.sizes.ensures.paired))
