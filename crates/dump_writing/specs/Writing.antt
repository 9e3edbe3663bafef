-- What a writer has taken after bytes were written to it.
use Rattle.std.specs.Prelude.{◌≡◌, List, ℕ, ◌++◌, Option, Result, Ok, Err, ⊤}
use Rattle.std.specs.Io.KnownBytes.{Appends}
use Rattle.lb_snapshot.specs.Measured.{Taken}
use Rattle.dump_format.specs.Text.{IsLbd1}
use Rattle.dump_format.specs.declared.error.DumpError.{DumpError}
use Rattle.dump_format.specs.declared.error.DumpError.TheVariants.{Wide, Write}
use Rattle.dump_writing.specs.Narrow.{IsFirstWide}

-- the writer took all of these bytes or, where it failed, a prefix of them
abbrev pub Puts : Option (List ℕ) → Option (List ℕ) → List ℕ → Result ⊤ DumpError → Type 0
Puts old new bytes (Ok _) = Appends old new bytes
Puts old new bytes (Err e) = (e ≡ Write) × (gone : List ℕ) × (rest : List ℕ) × (bytes ≡ gone ++ rest) × Appends old new gone

-- The writer took the text of this snapshot in the format LBD1 or, where it failed, a prefix of it. Where a load is too great
-- for the format, the first such load is reported, and the writer took nothing.
abbrev pub PutsLbd1 : Taken → Option (List ℕ) → Option (List ℕ) → Result ⊤ DumpError → Type 0
PutsLbd1 s old new (Err (Wide i)) = IsFirstWide s.loads i × (new ≡ old)
PutsLbd1 s old new result = (text : List ℕ) × IsLbd1 s text × Puts old new text result
