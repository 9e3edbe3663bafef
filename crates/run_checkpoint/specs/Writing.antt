-- What a writer has taken after bytes were written to it.
use Rattle.std.specs.Prelude.{◌≡◌, List, ℕ, ◌++◌, Option, Result, Ok, Err, ⊤}
use Rattle.std.specs.Io.KnownBytes.{Appends}

-- the writer took all of these bytes or, where it failed, a prefix of them
abbrev pub Puts : {E : Type 0} → Option (List ℕ) → Option (List ℕ) → List ℕ → Result ⊤ E → Type 0
Puts old new bytes (Ok _) = Appends old new bytes
Puts old new bytes (Err e) = (gone : List ℕ) × (rest : List ℕ) × (bytes ≡ gone ++ rest) × Appends old new gone
