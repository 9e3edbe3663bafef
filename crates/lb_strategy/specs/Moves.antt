-- Which elements a decision moves, and where to.
use Rattle.std.specs.Prelude.{ℕ, ◌≡◌, ◌<◌, ◌==◌, Bool, not, ◌&&◌, List, length, map, slice_index, slice_index_or}
use Rattle.std.specs.List.{filter, range_with_len}
use Rattle.std.specs.List.Sorted.{IsNonDecreasing}
use Rattle.chare_index.specs.declared.limits.TheConstants.Limits.{PES}
use Rattle.lb_certificates.specs.Naming.{block_of, blocks_between}

-- the PE on which element i is to run: the name of its block
abbrev pub planned_pe : List ℕ → List ℕ → ℕ → ℕ
planned_pe cuts names i = slice_index names (block_of cuts i)

-- element i, the PE that it is on and the one on which it is to run
abbrev pub move_of : List (ℕ × ℕ) → List ℕ → List ℕ → ℕ → ℕ × ℕ × ℕ
move_of sizes cuts names i = (i, (slice_index_or sizes i (0, 0)).1, planned_pe cuts names i)

-- an element that is on one PE and is to run on another
abbrev pub is_move : ℕ × ℕ × ℕ → Bool
is_move move = not (move.1 == move.2)

-- the moves of the elements below n, in order of index
abbrev pub moves_below : List (ℕ × ℕ) → List ℕ → List ℕ → ℕ → List (ℕ × ℕ × ℕ)
moves_below sizes cuts names n = filter is_move (map (move_of sizes cuts names) (range_with_len 0 n))

-- the cuts begin with 0 and do not decrease, element i is below the last of them, and its block has a name that is a PE
pub record HasPlace (cuts names : List ℕ) (i : ℕ) : Type 0 where
  pub starts : slice_index cuts 0 ≡ 0
  pub ordered : IsNonDecreasing cuts
  pub inside : i < slice_index cuts (blocks_between cuts)
  pub named : block_of cuts i < length names
  pub pe : planned_pe cuts names i < PES

-- equal elements, with equal PEs before and after
abbrev pub same_move : ℕ × ℕ × ℕ → ℕ × ℕ × ℕ → Bool
same_move a b = ((a.0 == b.0) && (a.1 == b.1)) && (a.2 == b.2)
