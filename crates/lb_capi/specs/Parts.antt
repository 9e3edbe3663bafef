-- What callers pass of a part of a chain, and the statuses of calls on it.
use Rattle.std.specs.Prelude.{◌≡◌, ℕ, ◌+◌, ◌-◌, ◌^◌, ◌<◌, List, length, ℤ, negsuc, All}
use Rattle.merged_chains.specs.Lists.{IsBlockCount, IsNumbered}
use Rattle.merged_chains.specs.declared.error.PartError.{PartError}
use Rattle.merged_chains.specs.declared.error.PartError.TheVariants.{BadInput, BadLoad, OutOfMemory}
use Rattle.merged_chains.specs.declared.walk.Walk.{Walk}

-- the status that says why a call on a part was refused
abbrev pub part_status : PartError → ℤ
part_status BadInput = negsuc 0
part_status OutOfMemory = negsuc 1
part_status BadLoad = negsuc 2

-- the walk of these numbers
abbrev pub walk_of : ℕ → ℕ → ℕ → Walk
walk_of limit closed filled = record { limit = limit; closed = closed; filled = filled }

-- limits that were tried, with a number of closed blocks for each
pub record AreTried (blocks : ℕ) (limits closed : List ℕ) : Type 0 where
  pub counted : IsBlockCount blocks
  pub closed_for_each : length closed ≡ length limits
  pub small : All (λ limit. limit < 2 ^ 64 - 1) limits

-- the sizes of a part, and one cut more than blocks
pub record IsHeldAsked (bytes : List ℕ) (first : ℕ) (cuts held : List ℕ) : Type 0 where
  pub numbered : IsNumbered first bytes
  pub room : length cuts ≡ length held + 1
