-- Blocks known by a table alone: for each block and each PE the bytes of the block that are there, row by row, of as many
-- PEs as blocks.
use Rattle.std.specs.Prelude.{◌≡◌, ◌≢◌, ◌⊎◌, ℕ, ◌+◌, ◌-◌, ◌*◌, ◌<◌, ◌≤◌, ◌==◌, if◌then◌else◌, List, All, length, slice_index, slice_range, sum, sum_by, ℤ, pos, ◌+ℤ◌, ◌<ℤ◌, ◌≤ℤ◌}
use Rattle.lb_certificates.specs.Chain.{IsDivision}
use Rattle.lb_certificates.specs.Flaws.{IsBefore, Repeats}
use Rattle.lb_certificates.specs.Naming.{IsNaming, Proves, naming_cost, price_at, price_sum}
use Rattle.lb_certificates.specs.declared.flaw.Flaw.{Flaw}
use Rattle.lb_certificates.specs.declared.flaw.Flaw.TheVariants.{CutCount, NameCount, NameRange, NameTwice, PriceCount, PriceHigh, PriceGap}

-- the bytes of block b that are on PE p
abbrev pub bytes_held : List (ℕ × ℕ) → List ℕ → ℕ → ℕ → ℕ
bytes_held sizes cuts b p =
    sum_by (λ size. if size.1 == p then size.0 else 0) (slice_range sizes (slice_index cuts b) (slice_index cuts (b + 1)))

-- the table of the blocks between these cuts, of elements that are all on one of the PEs
pub record IsHeld (blocks : ℕ) (sizes : List (ℕ × ℕ)) (cuts held : List ℕ) : Type 0 where
  pub divides : IsDivision 0 (length sizes) blocks cuts
  pub placed : All (λ size. size.1 < blocks) sizes
  pub exact : (b p : ℕ) → b < blocks → p < blocks → slice_index held (b * blocks + p) ≡ bytes_held sizes cuts b p

-- a fact of all elements and cuts that have this table
abbrev pub WhereHeld : ℕ → List ℕ → (List (ℕ × ℕ) → List ℕ → Type 0) → Type 0
WhereHeld blocks held fact = (sizes : List (ℕ × ℕ)) (cuts : List ℕ) → IsHeld blocks sizes cuts held → fact sizes cuts

-- the row of block b
abbrev pub row_of : ℕ → List ℕ → ℕ → List ℕ
row_of blocks held b = slice_range held (b * blocks) (b * blocks + blocks)

-- what the block of a row costs on PE p: its bytes, less those that are there
abbrev pub row_cost : List ℕ → ℕ → ℕ
row_cost row p = sum row - slice_index row p

abbrev pub held_cost : ℕ → List ℕ → ℕ → ℕ → ℕ
held_cost blocks held b p = row_cost (row_of blocks held b) p

-- the bytes that a naming moves
abbrev pub held_moved : ℕ → List ℕ → List ℕ → ℕ
held_moved blocks held names = naming_cost blocks (held_cost blocks held) names

-- there is a block, the names are a naming of the blocks, and the prices prove it
pub record IsNamedBy (blocks : ℕ) (held names : List ℕ) (u v : List ℤ) : Type 0 where
  pub some_block : 0 < blocks
  pub naming : IsNaming blocks names
  pub proved : Proves blocks (held_cost blocks held) (held_moved blocks held names) u v

-- the first pair of a block and a PE, by block and then PE, whose prices add up to more than the block costs there
pub record IsFirstAbove (cost : ℕ → ℕ → ℕ) (u v : List ℤ) (blocks : ℕ) (pair : ℕ × ℕ) : Type 0 where
  pub block : pair.0 < blocks
  pub pe : pair.1 < blocks
  pub high : pos (cost pair.0 pair.1) <ℤ (price_at u pair.0 +ℤ price_at v pair.1)
  pub earlier : (b p : ℕ) → p < blocks → IsBefore (b, p) pair → (price_at u b +ℤ price_at v p) ≤ℤ pos (cost b p)

-- a flaw of a naming of the blocks of a table, and of its prices, that applies, whatever else is wrong
abbrev pub HasHeldFlaw : ℕ → List ℕ → List ℕ → List ℤ → List ℤ → Flaw → Type 0
HasHeldFlaw blocks held names u v CutCount = blocks ≡ 0
HasHeldFlaw blocks held names u v NameCount = length names ≢ blocks
HasHeldFlaw blocks held names u v NameRange = (b : ℕ) × (b < length names) × (blocks ≤ slice_index names b)
HasHeldFlaw blocks held names u v NameTwice = Repeats names
HasHeldFlaw blocks held names u v PriceCount = (length u ≢ blocks) ⊎ (length v ≢ blocks)
HasHeldFlaw blocks held names u v (PriceHigh b p) =
    (b < blocks) × (p < blocks) × (pos (held_cost blocks held b p) <ℤ (price_at u b +ℤ price_at v p))
HasHeldFlaw blocks held names u v PriceGap = price_sum u +ℤ price_sum v ≢ pos (held_moved blocks held names)
HasHeldFlaw blocks held names u v _ = ⊥
