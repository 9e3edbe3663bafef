use Rattle.std.proofs.Common.{◌≡◌, ◌+◌, length, drop}
use Rattle.std.specs.List.{flat_map}
use Rattle.rts_core.specs.Places.{letters_in}
use Rattle.rts_run.proofs.counting.among.Given as goal

abbrev pub invariant-loop-parcel : goal.invariant-loop-parcel
invariant-loop-parcel g l = l.letters + length (flat_map letters_in (drop l.parcel-index l.parcels)) ≡ length (flat_map letters_in l.parcels)
