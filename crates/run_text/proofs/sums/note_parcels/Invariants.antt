use Rattle.std.proofs.Common.{◌≡◌, take}
use Rattle.std.specs.List.{flat_map}
use Rattle.run_account.specs.Noting.{with_noted}
use Rattle.run_text.specs.Sums.{sums_in}
use Rattle.run_text.proofs.sums.note_parcels.Given as goal

abbrev pub invariant-loop-parcel : goal.invariant-loop-parcel
invariant-loop-parcel g l = l.sums ≡ with_noted l.initial.sums (flat_map sums_in (take l.parcel-index l.parcels))
