-- Numbers, each after a blank, that a reader of places has met. No public clause uses these definitions.
use Rattle.std.specs.Prelude.{◌≡◌, ℕ, Bool, true, false, List, ◌∷◌, ◌++◌, All}
use Rattle.std.specs.List.{flat_map}
use Rattle.workload.specs.Text.{blank_number}
use Rattle.run_checkpoint.specs.Faults.{ArePlaces, IsShort}

-- all of these numbers were kept, or they are no places
abbrev pub AreKept : Bool → List ℕ → List ℕ → Type 0
AreKept false places numbers = (places ≡ numbers) × ArePlaces numbers
AreKept true places numbers = ArePlaces numbers → ⊥

-- the numbers, each after a blank, that begin these bytes, which are all there are, and the rest
pub record AreFields (bytes : List ℕ) (past : Bool) (places rest : List ℕ) : Type 0 where
  pub numbers : List ℕ
  pub spelled : bytes ≡ flat_map blank_number numbers ++ rest
  pub formed : All IsShort numbers
  pub kept : AreKept past places numbers
  pub lone : (all tail : List ℕ) → All IsShort all → bytes ≡ flat_map blank_number all ++ 10 ∷ tail → (all ≡ numbers) × (rest ≡ 10 ∷ tail)
