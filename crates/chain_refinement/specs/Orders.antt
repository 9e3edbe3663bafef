-- The order of PEs along a chain, where the elements of each are consecutive.
use Rattle.std.specs.Prelude.{◌≡◌, ◌≢◌, ℕ, ◌+◌, ◌<◌, ◌≤◌, List, length, slice_index, slice_index_or}
use Rattle.lb_certificates.specs.Chain.{IsDivision}
use Rattle.lb_certificates.specs.Naming.{IsNaming}

-- the PE that element i is on
abbrev pub place_of : List (ℕ × ℕ) → ℕ → ℕ
place_of sizes i = (slice_index_or sizes i (0, 0)).1

-- each element between two neighboring cuts is on the PE that is the name of that block
pub record StandInOrder (sizes : List (ℕ × ℕ)) (names present : List ℕ) : Type 0 where
  pub divides : IsDivision 0 (length sizes) (length names) present
  pub stands : (b i : ℕ) → b < length names → slice_index present b ≤ i → i < slice_index present (b + 1) → place_of sizes i ≡ slice_index names b

-- The order of this number of PEs, with the cuts between their elements: those without elements follow the others, in ascending
-- order.
pub record IsPresentOrder (sizes : List (ℕ × ℕ)) (pes : ℕ) (names present : List ℕ) : Type 0 where
  pub naming : IsNaming pes names
  pub in_order : StandInOrder sizes names present
  pub idle_last : (b : ℕ) → b + 1 < pes → slice_index present b ≡ slice_index present (b + 1) → slice_index present (b + 1) ≡ slice_index present (b + 1 + 1)
  pub idle_rise : (b : ℕ) → b + 1 < pes → slice_index present b ≡ slice_index present (b + 1) → slice_index names b < slice_index names (b + 1)

-- before a cut no element is on the PE behind it, and from it on none is on the PE before it
pub record ArePartsApart (sizes : List (ℕ × ℕ)) (from to cut : ℕ) : Type 0 where
  pub before : (i : ℕ) → i < cut → i < length sizes → place_of sizes i ≢ to
  pub behind : (i : ℕ) → cut ≤ i → i < length sizes → place_of sizes i ≢ from

-- the elements stand so at the present cut between block b and the next
abbrev pub AreApartAt : List (ℕ × ℕ) → List ℕ → List ℕ → ℕ → Type 0
AreApartAt sizes names present b =
    ArePartsApart sizes (slice_index names b) (slice_index names (b + 1)) (slice_index present (b + 1))
