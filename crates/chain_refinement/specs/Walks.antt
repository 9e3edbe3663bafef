-- What walks along a chain keep: windows of elements within a limit, and climbs of step functions.
use Rattle.std.specs.Prelude.{◌≡◌, ℕ, ◌+◌, ◌*◌, ◌^◌, ◌≤◌, List, length, drop}
use Rattle.lb_snapshot.specs.Measured.{load}
use Rattle.chain_refinement.specs.Refinement.{height}

-- the first place at which a block within the limit may begin that ends at this place
pub record IsLeastStart (loads : List ℕ) (end limit start : ℕ) : Type 0 where
  pub inside : start ≤ end
  pub light : load loads start end ≤ limit
  pub least : (other : ℕ) → other ≤ end → load loads other end ≤ limit → start ≤ other

-- the widest block within the limit that ends at this place: where it begins, and its load
pub record IsWindow (loads : List ℕ) (end limit start weight : ℕ) : Type 0 where
  pub weighed : weight ≡ load loads start end
  pub start_is : IsLeastStart loads end limit start

-- this number of steps is climbed by a place, to this height; the other steps rise from there, at this place and behind it
pub record IsClimbed (steps : List (ℕ × ℕ)) (place next reached : ℕ) : Type 0 where
  pub inside : next ≤ length steps
  pub small : reached ≤ next * 2 ^ 64
  pub left : (x : ℕ) → place ≤ x → height steps x ≡ reached + height (drop next steps) x
