use Rattle.std.proofs.Common.{◌≡◌, map, take}
use Rattle.load_report.proofs.places.present_places.Given as goal

abbrev pub invariant-loop-pe : goal.invariant-loop-pe
invariant-loop-pe g l = l.places.items ≡ map (λ size. size.1) (take l.pe-index l.sizes)
