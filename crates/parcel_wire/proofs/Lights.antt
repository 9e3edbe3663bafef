-- The load of a mark that is within its limits.
use Rattle.std.proofs.Common.{◌≡◌, true, arith}
use Rattle.std.proofs.lemmas.Bool.Decides.{nat_tests}
use Rattle.chares.specs.declared.note.Mark.TheVariants.{Synced}
use Rattle.chares.specs.declared.note.Note.{Note}
use Rattle.chares.specs.declared.note.Note.TheVariants.{Sync, Finish}
use Rattle.chares.specs.Keeping.{IsLight}
use Rattle.parcel_wire.specs.Marks.{are_within, mark_parts}

pub light : (note : Note) → are_within (mark_parts (Synced note)) ≡ true → IsLight note
light (Sync index round load bytes pe) within = grind (arith, nat_tests)
light (Finish index) within = tt
