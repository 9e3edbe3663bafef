use Rattle.load_report.proofs.Placements.{present_placed}
use Rattle.load_report.proofs.text.present_spread.Goals as goal

pub of-requires : goal.of-requires
of-requires g c =
    let s = c.args.snapshot.now in
    rw (c.loads.ensures.value, c.procs.ensures.value, c.deref.ensures.value, c.in_ok-places.ensures.value) (present_placed s.procs s.loads s.sizes c.procs.ensures.consistent)
