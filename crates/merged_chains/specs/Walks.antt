-- A greedy walk that comes to a chain part by part. It is the probe of A. Pinar and C. Aykanat, "Fast optimal load
-- balancing algorithms for 1D partitioning", Journal of Parallel and Distributed Computing 64(8), 2004: each block takes
-- as many elements as fit within a limit, in order. Where it stands between two parts is this project's.
use Rattle.std.specs.Prelude.{◌≡◌, ℕ, ◌<◌, ◌≤◌, List, ◌++◌, length, slice_index, ◌-◌, replicate}
use Rattle.lb_snapshot.specs.Measured.{load}
use Rattle.chain_partition.specs.Greedy.{IsGreedy}
use Rattle.merged_chains.specs.declared.walk.Walk.{Walk}

-- A walk that has come behind the last of these loads, the first of a chain. Blocks that could not take the element
-- behind them are closed, and end at ends, with a 0 before them. Where blocks are left, the next one is open: it has what
-- is behind the closed ones.
pub record IsWalked (loads : List ℕ) (blocks : ℕ) (ends : List ℕ) (walk : Walk) : Type 0 where
  pub few : walk.closed ≤ blocks
  pub greedy : IsGreedy loads walk.closed walk.limit ends
  pub past : 0 < walk.closed → slice_index ends walk.closed < length loads
  pub open_load : walk.closed < blocks → walk.filled ≡ load loads (slice_index ends walk.closed) (length loads)
  pub fits : walk.filled ≤ walk.limit
  pub none_open : walk.closed ≡ blocks → walk.filled ≡ 0

-- the ends of all blocks, where these loads are the whole chain: those that are not closed end behind the last element
abbrev pub all_ends : List ℕ → List ℕ → ℕ → Walk → List ℕ
all_ends loads ends blocks walk = ends ++ replicate (blocks - walk.closed) (length loads)

-- Wherever the walk stood before the part, with this many elements before it and whatever ends, the new one stands behind
-- the part, with these further ends.
abbrev pub EndsAt : List ℕ → ℕ → Walk → ℕ → List ℕ → Walk → Type 0
EndsAt part blocks walk offset more new =
    (before ends : List ℕ) → length before ≡ offset → IsWalked before blocks ends walk → IsWalked (before ++ part) blocks (ends ++ more) new

-- The new walk is the old one behind the part, with some further ends. Whatever the numbers of the old one, which may be no
-- walk of any chain, no more blocks are closed than there are; none is opened again, and the open one keeps within the limit,
-- where it did so before.
pub record WalksOn (part : List ℕ) (blocks : ℕ) (walk new : Walk) : Type 0 where
  pub limit : new.limit ≡ walk.limit
  pub few : new.closed ≤ blocks
  pub onward : walk.closed ≤ blocks → walk.closed ≤ new.closed
  pub fits : walk.filled ≤ walk.limit → new.filled ≤ walk.limit
  pub walked : (before ends : List ℕ) → IsWalked before blocks ends walk → (more : List ℕ) × IsWalked (before ++ part) blocks (ends ++ more) new
