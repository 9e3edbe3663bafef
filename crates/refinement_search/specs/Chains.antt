-- What rows are made of.
use Rattle.std.specs.Prelude.{◌≡◌, ℕ, ◌+◌, ◌^◌, ◌<◌, ◌≤◌, length, slice_index}
use Rattle.chare_index.specs.declared.limits.TheConstants.Limits.{PES}
use Rattle.lb_snapshot.specs.Measured.{IsSizes}
use Rattle.lb_certificates.specs.Chain.{IsDivision}
use Rattle.chain_refinement.specs.Orders.{AreApartAt}
use Rattle.refinement_search.specs.Tables.{ArePiled, AreSpans}
use Rattle.refinement_search.specs.declared.rows.RowInputs.{RowInputs}

-- the lists of a chain fit together
pub record IsSpanned (c : RowInputs) : Type 0 where
  pub sized : IsSizes c.sizes.now
  pub some_block : 0 < length c.names.now
  pub few_blocks : length c.names.now ≤ PES
  pub counted : length c.starts.now ≡ length c.sizes.now + 1
  pub before : (x : ℕ) → x < length c.starts.now → slice_index c.starts.now x ≤ x
  pub onward : (x y : ℕ) → x ≤ y → y < length c.starts.now → slice_index c.starts.now x ≤ slice_index c.starts.now y
  pub divides : IsDivision 0 (length c.sizes.now) (length c.names.now) c.present.now
  pub apart : (b : ℕ) → b + 1 < length c.names.now → AreApartAt c.sizes.now c.names.now c.present.now b
  pub nears : length c.near.now ≡ length c.names.now
  pub fars : length c.far.now ≡ length c.names.now
  pub spans : AreSpans c.present.now (length c.names.now) (length c.sizes.now) (slice_index c.starts.now) (slice_index c.near.now) (slice_index c.far.now)

-- the rows of the first `blocks` blocks
abbrev pub ArePiledOn : RowInputs → ℕ → (ℕ → ℕ → ℕ) → Type 0
ArePiledOn c blocks at =
    ArePiled c.sizes.now c.names.now (2 ^ 62) (slice_index c.starts.now) (slice_index c.near.now) (slice_index c.far.now) blocks at
