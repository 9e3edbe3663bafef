-- What is written about a file, and what a writer has then.
use Rattle.std.specs.Prelude.{◌≡◌, ℕ, List, [], ◌∷◌, ◌++◌, codes, Bool, Option, MatchBool, IsTrue}
use Rattle.std.specs.Io.KnownBytes.{Appends}
use Rattle.streams.specs.Writing.{WritesPrefix}

-- the line of a program about a file
abbrev pub fault_line : List ℕ → List ℕ → List ℕ → List ℕ
fault_line program name said = program ++ codes ": " ++ name ++ codes ": " ++ said ++ 10 ∷ []

-- this line was written, or where that failed, a prefix of it
abbrev pub Tells : List ℕ → Option (List ℕ) → Option (List ℕ) → Bool → Type 0
Tells line old new told = MatchBool told (Appends old new line) (WritesPrefix old new line)

-- there was nothing to write
abbrev pub TellsAll : Option (List ℕ) → Option (List ℕ) → Bool → Type 0
TellsAll old new told = IsTrue told × (new ≡ old)
