-- Elements that a text may have: each number within its limit.
use Rattle.std.specs.Prelude.{◌≡◌, ℕ, ◌^◌, ◌<◌, ◌≤◌, List, length, All}
use Rattle.std.specs.Int.{Width}
use mir.Val.{bits}
use Rattle.chare_index.specs.declared.limits.TheConstants.Limits.{LOAD, STATE_BYTES}

-- as many sizes as loads, each number within its limit, each load a number of this width
pub record AreKept (w : Width) (procs : ℕ) (loads : List ℕ) (sizes : List (ℕ × ℕ)) : Type 0 where
  pub paired : length sizes ≡ length loads
  pub loads_fit : All (λ load. load ≤ LOAD) loads
  pub loads_spelled : All (λ load. load < 2 ^ bits w) loads
  pub sizes_fit : All (λ size. size.0 ≤ STATE_BYTES) sizes
  pub places_fit : All (λ size. size.1 < procs) sizes
