-- The marks that an element keeps, each in 16 bytes.
use Rattle.std.specs.Prelude.{ℕ, ◌≤◌, ◌/◌, ◌%◌, ◌==◌, if◌then◌else◌}
use Rattle.chare_index.specs.declared.limits.TheConstants.Limits.{LOAD}
use Rattle.chares.specs.declared.note.Mark.{Mark}
use Rattle.chares.specs.declared.note.Mark.TheVariants.{Synced, Resumed}
use Rattle.chares.specs.declared.note.Note.{Note}
use Rattle.chares.specs.declared.note.Note.TheVariants.{Sync, Finish}

-- the load of a note is within the limit of a load
abbrev pub IsLight : Note → Type 0
IsLight (Sync index round load bytes pe) = load ≤ LOAD
IsLight (Finish index) = Unit {0}

-- the mark of this round that is kept as 65,536 times the load plus the index, and 1,024 times the bytes plus 256 times the
-- kind plus the PE. Its kind is 0 for a resumption, 1 for a wait, and 2 for the end of an element
abbrev pub mark_of : ℕ → ℕ → ℕ → Mark
mark_of round load_index bytes_kind_pe =
    if (bytes_kind_pe / 256) % 4 == 0 then Resumed round (bytes_kind_pe % 256)
    else if (bytes_kind_pe / 256) % 4 == 1 then Synced (Sync (load_index % 65536) round (load_index / 65536) (bytes_kind_pe / 1024) (bytes_kind_pe % 256))
    else Synced (Finish (load_index % 65536))
