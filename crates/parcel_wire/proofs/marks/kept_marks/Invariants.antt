use Rattle.std.proofs.Common.{◌≡◌, take}
use Rattle.parcel_wire.proofs.marks.kept_marks.Given as goal

abbrev pub invariant-loop-mark : goal.invariant-loop-mark
invariant-loop-mark l = record { kept : l.kept.items ≡ take l.mark-index l.marks }
