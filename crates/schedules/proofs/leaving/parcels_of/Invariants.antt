use Rattle.std.proofs.Common.{◌≡◌, ◌++◌, length}
use Rattle.schedules.proofs.leaving.parcels_of.Given as goal

abbrev pub invariant-loop-parcel : goal.invariant-loop-parcel
invariant-loop-parcel g l = l.left.items ++ l.parcels.items ≡ l.fn.queue

abbrev pub decreases-loop-parcel : goal.decreases-loop-parcel
decreases-loop-parcel g l = length l.parcels.items
