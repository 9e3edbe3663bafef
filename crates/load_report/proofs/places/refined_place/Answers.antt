use Rattle.std.proofs.Common.{◌≡◌, rules}
use Rattle.load_report.proofs.RefinedPlaces.{place_from_refined}
use Rattle.load_report.proofs.places.refined_place.Goals as goal

pub place_of-requires : goal.place_of-requires
place_of-requires g c =
    let s = c.args.snapshot.now in
    let same : c.unwrap-index.result ≡ c.args.i = search rules in
    record { placed = rw same (place_from_refined s.loads s.sizes c.args.pes c.args.decision.now c.requires.refined c.args.i c.requires.inside) }
