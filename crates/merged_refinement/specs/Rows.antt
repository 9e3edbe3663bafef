-- Definitions for this crate's own code, which no public contract uses: what cuts cost where the ranks keep their order, and the
-- rows of the search's table.
use Rattle.std.specs.Prelude.{◌≡◌, ℕ, ◌+◌, ◌-◌, ◌^◌, ◌<◌, ◌≤◌, min, max, List, [], length, slice_index, slice_index_or, sum}
use Rattle.lb_snapshot.specs.Measured.{load}
use Rattle.lb_certificates.specs.Chain.{IsDivision}
use Rattle.refinement_search.specs.Tables.{ArePiled, AreRead}
use Rattle.merged_refinement.specs.InOrder.{in_order, sizes_on}
use Rattle.merged_refinement.specs.declared.pile.Table.{Table}
use Rattle.merged_refinement.specs.declared.row.Sums.{Sums}

-- The bytes that a cut moves at a place, where its rank has the elements from one present cut to another, and the next rank those
-- from there to a third.
abbrev pub standing_cost : List ℕ → ℕ → ℕ → ℕ → ℕ → ℕ
standing_cost bytes before here behind x =
    load bytes (max x before) here + load bytes here (min x behind)

-- the height of a row at a place: before its first place that of this one, and behind its last place that of that one
abbrev pub row_at : ℕ × List ℕ → ℕ → ℕ
row_at row x = slice_index row.1 (min (x - row.0) (length row.1 - 1))

-- the height of a block's row
abbrev pub rows_at : List (ℕ × List ℕ) → ℕ → ℕ → ℕ
rows_at rows b x = row_at (slice_index_or rows b (0, [])) x

-- what is compared at a place: the row below at the least start of a block that ends there, and what the cut costs there
abbrev pub cost_by : List ℕ → Sums → ℕ → ℕ
cost_by bytes sums x = standing_cost bytes sums.cut.before sums.cut.here sums.cut.behind x

abbrev pub sum_by_row : ℕ × List ℕ → List ℕ → Sums → ℕ → ℕ
sum_by_row below bytes sums x =
    row_at below (slice_index sums.starts.now x) + cost_by bytes sums x

-- a cut and a row of a chain of this many elements: in order, and with a least start for each place
pub record AreSums (bytes : List ℕ) (sums : Sums) : Type 0 where
  pub ordered : sums.cut.before ≤ sums.cut.here
  pub onward : sums.cut.here ≤ sums.cut.behind
  pub inside : sums.cut.behind ≤ length bytes
  pub light : sum bytes < 2 ^ 61
  pub counted : length sums.starts.now ≡ length bytes + 1
  pub some : sums.near ≤ sums.far
  pub within : sums.far ≤ length bytes

-- from a number of the list on, each is the least of the sums from it on
pub record AreLeastFrom (sum : ℕ → ℕ) (heights : List ℕ) (i : ℕ) : Type 0 where
  pub low : (z : ℕ) → i ≤ z → z < length heights → slice_index heights z ≤ sum z
  pub rises : (y z : ℕ) → i ≤ y → y ≤ z → z < length heights → slice_index heights y ≤ slice_index heights z
  pub reached : (z : ℕ) → i ≤ z → z < length heights → (y : ℕ) × (z ≤ y) × (y < length heights) × (sum y ≤ slice_index heights z)

-- what the rows are made of: for each number of blocks up to all a present cut, between two bounds, and for each place a least start
pub record IsTable (bytes : List ℕ) (t : Table) : Type 0 where
  pub some_block : 2 ≤ length t.near.now
  pub divides : IsDivision 0 (length bytes) (length t.near.now - 1) t.present.now
  pub light : sum bytes < 2 ^ 61
  pub counted : length t.starts.now ≡ length bytes + 1
  pub bounds_counted : length t.far.now ≡ length t.near.now
  pub near_before : (b : ℕ) → b < length t.near.now → slice_index t.near.now b ≤ slice_index t.present.now b
  pub far_behind : (b : ℕ) → b < length t.near.now → slice_index t.present.now b ≤ slice_index t.far.now b
  pub far_inside : (b : ℕ) → b < length t.near.now → slice_index t.far.now b ≤ length bytes

-- the rows of the first blocks
abbrev pub ArePiledUp : List ℕ → Table → ℕ → List (ℕ × List ℕ) → Type 0
ArePiledUp bytes t blocks rows =
    ArePiled (sizes_on bytes t.present.now) (in_order (length t.near.now - 1)) (2 ^ 62) (slice_index t.starts.now) (slice_index t.near.now)
    (slice_index t.far.now) blocks (rows_at rows)

-- no height of a block's row is above this
abbrev pub AreSmall : List ℕ → Table → ℕ → List (ℕ × List ℕ) → Type 0
AreSmall bytes t b rows =
    (x : ℕ) → rows_at rows b x ≤ 2 ^ 62 + load bytes 0 (slice_index t.present.now b) + load bytes 0 (slice_index t.present.now (b + 1))

-- the cuts are read off such rows of all blocks
pub record IsReadOff (bytes : List ℕ) (t : Table) (cuts : List ℕ) : Type 0 where
  pub rows : List (ℕ × List ℕ)
  pub piled : ArePiledUp bytes t (length t.near.now - 1) rows
  pub read : AreRead (length t.near.now - 1) t.present.now (length bytes) (slice_index t.starts.now) (rows_at rows) cuts
