-- The table of the search: for each block the least cost of all cuts before it, by the place at which the block begins, and the
-- cuts read off it. Only the places between two bounds are written, since nothing better is found outside them.
use Rattle.std.specs.Prelude.{◌≡◌, ℕ, ◌+◌, ◌-◌, ◌<◌, ◌≤◌, max, List, length, slice_index}
use Rattle.lb_certificates.specs.Chain.{IsDivision}
use Rattle.chain_refinement.specs.Orders.{AreApartAt}
use Rattle.chain_refinement.specs.Refinement.{cut_cost}
use Rattle.refinement_search.specs.Windows.{AreStarts}

-- The places of each block's row: from one at or before the present cut, which no block within the limit from before the row
-- below reaches, to one at or behind it, from which blocks within the limit continue to the end of the chain.
pub record AreSpans (present : List ℕ) (blocks elements : ℕ) (start near far : ℕ → ℕ) : Type 0 where
  pub first : near 0 ≡ 0
  pub near_before : (b : ℕ) → b < blocks → near b ≤ slice_index present b
  pub near_rises : (b : ℕ) → b + 1 < blocks → near b ≤ near (b + 1)
  pub near_reached : (b : ℕ) → b + 1 < blocks → start (near (b + 1)) ≤ near b
  pub far_behind : (b : ℕ) → b < blocks → slice_index present b ≤ far b
  pub far_inside : (b : ℕ) → b < blocks → far b ≤ elements
  pub far_reached : (b : ℕ) → b + 1 < blocks → start (far (b + 1)) ≤ far b
  pub far_last : start elements ≤ far (blocks - 1)

-- A row, made from the row below it: at each place of the row the least, over all its places from there on, of the row below at
-- the least start of a block that ends there and what the cut costs there. Before and behind its places the row is level.
pub record IsRow (near far : ℕ) (start cost below above : ℕ → ℕ) : Type 0 where
  pub flat : (x : ℕ) → x ≤ near → above x ≡ above near
  pub level : (x : ℕ) → far ≤ x → above x ≡ above far
  pub rises : (x y : ℕ) → x ≤ y → above x ≤ above y
  pub low : (x : ℕ) → near ≤ x → x ≤ far → above x ≤ below (start x) + cost x
  pub reached : (x : ℕ) → near ≤ x → x ≤ far → (y : ℕ) × (x ≤ y) × (y ≤ far) × (below (start y) + cost y ≤ above x)

-- The rows of this number of blocks. The first block begins at 0: at each other place its height is a bound that no cuts reach.
pub record ArePiled (sizes : List (ℕ × ℕ)) (names : List ℕ) (none : ℕ) (start near far : ℕ → ℕ) (blocks : ℕ) (at : ℕ → ℕ → ℕ) : Type 0 where
  pub first : at 0 0 ≡ 0
  pub elsewhere : (x : ℕ) → 0 < x → none ≤ at 0 x
  pub rises : (x y : ℕ) → x ≤ y → at 0 x ≤ at 0 y
  pub rows : (b : ℕ) → b + 1 < blocks → IsRow (near (b + 1)) (far (b + 1)) start (cut_cost sizes names b) (at b) (at (b + 1))

-- what is searched, with the table
pub record Searched : Type 0 where
  pub loads : List ℕ
  pub sizes : List (ℕ × ℕ)
  pub names : List ℕ
  pub present : List ℕ
  pub limit : ℕ
  pub none : ℕ
  pub start : ℕ → ℕ
  pub near : ℕ → ℕ
  pub far : ℕ → ℕ
  pub at : ℕ → ℕ → ℕ

-- the elements are in the order of the names, and the table is that of the search
pub record IsSearch (s : Searched) : Type 0 where
  pub paired : length s.loads ≡ length s.sizes
  pub some_block : 0 < length s.names
  pub divides : IsDivision 0 (length s.sizes) (length s.names) s.present
  pub apart : (b : ℕ) → b + 1 < length s.names → AreApartAt s.sizes s.names s.present b
  pub starts : AreStarts s.loads s.limit s.start
  pub spans : AreSpans s.present (length s.names) (length s.loads) s.start s.near s.far
  pub table : ArePiled s.sizes s.names s.none s.start s.near s.far (length s.names) s.at

-- the last place from low on, up to far, to which the height does not rise
pub record IsLevelTo (height : ℕ → ℕ) (low far cut : ℕ) : Type 0 where
  pub from : low ≤ cut
  pub to : cut ≤ far
  pub level : height cut ≡ height low
  pub last : (x : ℕ) → cut < x → x ≤ far → height cut < height x

-- the last such place up to the present cut, or low itself
abbrev pub IsLevel : (ℕ → ℕ) → ℕ → ℕ → ℕ → Type 0
IsLevel height present low cut = IsLevelTo height low (max present low) cut

-- cuts read off the table from the last one on: each is as far as the level of the least start of the block behind it extends
pub record AreRead (blocks : ℕ) (present : List ℕ) (elements : ℕ) (start : ℕ → ℕ) (at : ℕ → ℕ → ℕ) (cuts : List ℕ) : Type 0 where
  pub counted : length cuts ≡ blocks + 1
  pub starts : slice_index cuts 0 ≡ 0
  pub ends : slice_index cuts blocks ≡ elements
  pub level : (b : ℕ) → b + 1 < blocks → IsLevel (at (b + 1)) (slice_index present (b + 1)) (start (slice_index cuts (b + 1 + 1))) (slice_index cuts (b + 1))
