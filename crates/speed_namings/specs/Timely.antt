-- The assignment problem over blocks and PEs where only some pairs are allowed: those with which the PE ends by a time. Source:
-- R. K. Ahuja, T. L. Magnanti and J. B. Orlin, "Network Flows", Prentice Hall 1993, chapter 12, whose bipartite graphs need not be
-- complete either; prices are their dual variables.
use Rattle.std.specs.Prelude.{◌≡◌, ◌⊎◌, ℕ, ◌+◌, ◌*◌, ◌<◌, ◌≤◌, List, length, slice_index, ℤ, pos, ◌+ℤ◌, ◌≤ℤ◌}
use Rattle.lb_certificates.specs.Naming.{ComesBefore, IsNaming, naming_cost, price_at, price_sum}
use Rattle.block_assignment.specs.Table.{Table, cost_at}
use Rattle.speed_certificates.specs.declared.time.EndTime.{EndTime}
use Rattle.speed_certificates.specs.Speeds.{Pes, count, speed_of, background_of, EndsBy}

-- the pair is allowed: PE p ends by the time if it runs block b; these are the loads of the blocks
abbrev pub MayRun : List ℕ → Pes → EndTime → ℕ → ℕ → Type 0
MayRun loads pes t b p = EndsBy pes t.work t.speed p (background_of pes p + slice_index loads b)

-- a naming in which all pairs are allowed
pub record IsTimelyNaming (loads : List ℕ) (pes : Pes) (t : EndTime) (names : List ℕ) : Type 0 where
  pub naming : IsNaming (count pes) names
  pub timely : (b : ℕ) → b < count pes → MayRun loads pes t b (slice_index names b)

-- the first in dictionary order of the allowed namings of the least cost, which moved counts
pub record IsFirstCheapestTimely (loads : List ℕ) (pes : Pes) (t : EndTime) (moved : List ℕ → ℕ) (names : List ℕ) : Type 0 where
  pub timely : IsTimelyNaming loads pes t names
  pub cheapest : (others : List ℕ) → IsTimelyNaming loads pes t others → moved names ≤ moved others
  pub first : (others : List ℕ) → IsTimelyNaming loads pes t others → moved others ≤ moved names → (names ≡ others) ⊎ ComesBefore (count pes) names others

-- What proves that no allowed naming costs less: a price for each block and each PE, in no allowed pair together more than its cost,
-- and in all as much as this cost.
pub record ProvesTimely (loads : List ℕ) (pes : Pes) (t : EndTime) (cost : ℕ → ℕ → ℕ) (moved : ℕ) (u v : List ℤ) : Type 0 where
  pub block_prices : length u ≡ count pes
  pub pe_prices : length v ≡ count pes
  pub low : (b p : ℕ) → b < count pes → p < count pes → MayRun loads pes t b p → (price_at u b +ℤ price_at v p) ≤ℤ pos (cost b p)
  pub adds_up : price_sum u +ℤ price_sum v ≡ pos moved

-- the cost of an allowed pair is as it was, and the cost of any other is that of what is forbidden
pub record IsTimelyCost (costs : Table) (loads : List ℕ) (pes : Pes) (t : EndTime) (forbidden b p cost : ℕ) : Type 0 where
  pub same : MayRun loads pes t b p → cost ≡ cost_at costs b p
  pub other : t.work * speed_of pes p < (background_of pes p + slice_index loads b) * t.speed → cost ≡ forbidden

-- these are the costs of all pairs
pub record AreTimelyCosts (costs : Table) (loads : List ℕ) (pes : Pes) (t : EndTime) (forbidden : ℕ) (timely : Table) : Type 0 where
  pub counted : timely.blocks ≡ costs.blocks
  pub cells : (b p : ℕ) → b < costs.blocks → p < costs.blocks → IsTimelyCost costs loads pes t forbidden b p (cost_at timely b p)

-- all pairs of these names are allowed
abbrev pub AllMayRun : List ℕ → Pes → EndTime → List ℕ → Type 0
AllMayRun loads pes t names = (b : ℕ) → b < count pes → MayRun loads pes t b (slice_index names b)

-- in no allowed pair of the first n blocks the prices add up to more than the cost
abbrev pub AllLow : Table → List ℕ → Pes → EndTime → List ℤ → List ℤ → ℕ → Type 0
AllLow costs loads pes t u v n =
    (b p : ℕ) → b < n → p < count pes → MayRun loads pes t b p → (price_at u b +ℤ price_at v p) ≤ℤ pos (cost_at costs b p)

-- an allowed naming of the least cost
pub record IsCheapestTimely (loads : List ℕ) (pes : Pes) (t : EndTime) (moved : List ℕ → ℕ) (names : List ℕ) : Type 0 where
  pub timely : IsTimelyNaming loads pes t names
  pub cheapest : (others : List ℕ) → IsTimelyNaming loads pes t others → moved names ≤ moved others

-- the names are allowed, and the prices prove them
pub record AreTimelyNames (costs : Table) (loads : List ℕ) (pes : Pes) (t : EndTime) (names : List ℕ) (u v : List ℤ) : Type 0 where
  pub timely : IsTimelyNaming loads pes t names
  pub proved : ProvesTimely loads pes t (cost_at costs) (naming_cost (count pes) (cost_at costs) names) u v
