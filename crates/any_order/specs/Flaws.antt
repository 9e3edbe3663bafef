-- What can be wrong with a reordered division, and which flaw of several is reported.
use Rattle.std.specs.Prelude.{◌≡◌, ◌≢◌, ◌⊎◌, ℕ, ◌+◌, ◌<◌, ◌≤◌, List, length, slice_index}
use Rattle.chare_index.specs.declared.limits.TheConstants.Limits.{PES}
use Rattle.lb_snapshot.specs.Measured.{load}
use Rattle.lb_certificates.specs.Chain.{block_load, IsDivision}
use Rattle.lb_certificates.specs.Flaws.{flaw_number, flaw_place, HasFlaw, Repeats}
use Rattle.lb_certificates.specs.Naming.{bytes_moved}
use Rattle.any_order.specs.AnyOrder.{bound_at, IsCorner, reordered_limit, RisesTo}
use Rattle.any_order.specs.declared.reordered.Reordered.{Reordered}
use Rattle.any_order.specs.declared.flaw.ReorderedFlaw.{ReorderedFlaw}
use Rattle.any_order.specs.declared.flaw.ReorderedFlaw.TheVariants.{Least, PeCount, NameCount, NameRange, NameTwice, CutCount, NoDivision, Heavy, RowCount, Start, Steep, Low}

-- a block y..x within the limit that has to be looked at, by which the bounds rise by more than it brings to some PE
pub record IsSteep (loads : List ℕ) (sizes : List (ℕ × ℕ)) (limit : ℕ) (any free next_any next_free : ℕ → ℕ) (y x : ℕ) : Type 0 where
  pub onward : y ≤ x
  pub inside : x ≤ length loads
  pub light : load loads y x ≤ limit
  pub corner : IsCorner sizes any free next_any next_free y x
  pub steep : ¬ (RisesTo sizes any free next_any next_free y x)

-- a flaw of a reordered division that applies, whatever else is wrong
abbrev pub HasReorderedFlaw : {A : Type 0} → List ℕ → List (ℕ × ℕ) → ℕ → Reordered A → ReorderedFlaw → Type 0
HasReorderedFlaw loads sizes pes r (Least flaw) = HasFlaw loads pes r.least flaw
HasReorderedFlaw loads sizes pes r PeCount = (pes ≡ 0) ⊎ (PES < pes)
HasReorderedFlaw loads sizes pes r NameCount = length r.names ≢ pes
HasReorderedFlaw loads sizes pes r NameRange = (b : ℕ) × (b < length r.names) × (pes ≤ slice_index r.names b)
HasReorderedFlaw loads sizes pes r NameTwice = Repeats r.names
HasReorderedFlaw loads sizes pes r CutCount = length r.cuts ≢ pes + 1
HasReorderedFlaw loads sizes pes r NoDivision = ¬ (IsDivision 0 (length loads) pes r.cuts)
HasReorderedFlaw loads sizes pes r (Heavy b) = (b < pes) × (reordered_limit r < block_load loads r.cuts b)
HasReorderedFlaw loads sizes pes r RowCount = (length r.any ≢ pes + 1) ⊎ (length r.free ≢ pes + 1)
HasReorderedFlaw loads sizes pes r Start = (bound_at r.any 0 0 ≢ 0) ⊎ (bound_at r.free 0 0 ≢ 0)
HasReorderedFlaw loads sizes pes r (Steep b y x) =
    (b < pes) × IsSteep loads sizes (reordered_limit r) (bound_at r.any b) (bound_at r.free b) (bound_at r.any (b + 1)) (bound_at r.free (b + 1)) y x
HasReorderedFlaw loads sizes pes r Low = bound_at r.any pes (length loads) < bytes_moved sizes r.cuts r.names

-- the flaw's number in the order in which flaws are reported
abbrev pub reordered_flaw_number : ReorderedFlaw → ℕ
reordered_flaw_number (Least flaw) = flaw_number flaw
reordered_flaw_number PeCount = 20
reordered_flaw_number NameCount = 21
reordered_flaw_number NameRange = 22
reordered_flaw_number NameTwice = 23
reordered_flaw_number CutCount = 24
reordered_flaw_number NoDivision = 25
reordered_flaw_number (Heavy b) = 26
reordered_flaw_number RowCount = 27
reordered_flaw_number Start = 28
reordered_flaw_number (Steep b y x) = 29
reordered_flaw_number Low = 30

-- the block, the stop, or the number of blocks with the place where the next one begins and the one where it ends, that the
-- flaw names
abbrev pub reordered_flaw_place : ReorderedFlaw → ℕ × ℕ × ℕ
reordered_flaw_place (Least flaw) = ((flaw_place flaw).0, (flaw_place flaw).1, 0)
reordered_flaw_place (Heavy b) = (b, 0, 0)
reordered_flaw_place (Steep b y x) = (b, y, x)
reordered_flaw_place _ = (0, 0, 0)

-- a place comes before another: by the first number in which they differ
abbrev pub ComesFirst : ℕ × ℕ × ℕ → ℕ × ℕ × ℕ → Type 0
ComesFirst one other = (one.0 < other.0) ⊎ ((one.0 ≡ other.0) × ((one.1 < other.1) ⊎ ((one.1 ≡ other.1) × (one.2 < other.2))))

-- of the flaws that apply, the one with the least number, and at that number with the first place
pub record IsFirstReorderedFlaw (applies : ReorderedFlaw → Type 0) (flaw : ReorderedFlaw) : Type 0 where
  pub applies_itself : applies flaw
  pub no_lower_number : (other : ReorderedFlaw) → reordered_flaw_number other < reordered_flaw_number flaw → ¬ (applies other)
  pub no_lower_place : (other : ReorderedFlaw) → reordered_flaw_number other ≡ reordered_flaw_number flaw
      → ComesFirst (reordered_flaw_place other) (reordered_flaw_place flaw) → ¬ (applies other)
