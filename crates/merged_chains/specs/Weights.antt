-- A division and its fence, checked by the loads of their ranges alone. The certificate is that of lb_certificates: the
-- fence is the lower bound of A. Pinar and C. Aykanat, "Fast optimal load balancing algorithms for 1D partitioning",
-- Journal of Parallel and Distributed Computing 64(8), 2004.
use Rattle.std.specs.Prelude.{◌≡◌, ◌≢◌, ℕ, ◌+◌, ◌-◌, ◌<◌, ◌≤◌, List, length, slice_index, ◌++◌}
use Rattle.std.specs.List.Sorted.{IsNonDecreasing}
use Rattle.lb_certificates.specs.declared.division.Division.{Division}
use Rattle.lb_certificates.specs.declared.division.Floor.{Floor}
use Rattle.lb_certificates.specs.declared.flaw.Flaw.{Flaw}
use Rattle.lb_certificates.specs.declared.flaw.Flaw.TheVariants.{CutCount, CutStart, CutOrder, CutEnd, Heavy, FenceCount, FenceStart, FenceOrder, FenceEnd, FenceLight, ZeroFloor}
use Rattle.lb_snapshot.specs.Measured.{load}
use Rattle.lb_certificates.specs.Chain.{block_load, IsDivision}
use Rattle.lb_certificates.specs.Certificate.{MatchFloor, range_load}
use Rattle.lb_certificates.specs.Flaws.{Falls}

-- The numbers are the loads of the division's blocks, and those of the ranges from each stop of its fence to the next,
-- both included. Where the floor is no fence there are no ranges.
pub record AreWeights {A : Type 0} (loads : List ℕ) (blocks : ℕ) (d : Division A) (block_loads fence_loads : List ℕ) : Type 0 where
  pub blocks_weigh : (b : ℕ) → b < blocks → slice_index block_loads b ≡ block_load loads d.cuts b
  pub ranges_weigh : MatchFloor d.floor (Unit {0}) (λ stops. (i : ℕ) → 0 < i → i ≤ blocks → slice_index fence_loads (i - 1) ≡ range_load loads stops i)

-- The numbers are the loads that a part of the chain has of the ranges from each place to this many elements behind the
-- next; the part's first element is number first of the chain. Ranges that lie before or behind the part have 0 there.
abbrev pub AreRangeLoads : List ℕ → ℕ → ℕ → ℕ → List ℕ → List ℕ → Type 0
AreRangeLoads part first blocks behind places numbers =
    (b : ℕ) → b < blocks → slice_index numbers b ≡ load part (slice_index places b - first) (slice_index places (b + 1) + behind - first)

-- the numbers are what a part has of the division's blocks, and of the ranges of its fence
pub record ArePartWeights {A : Type 0} (part : List ℕ) (first blocks : ℕ) (d : Division A) (block_loads fence_loads : List ℕ) : Type 0 where
  pub blocks_weigh : AreRangeLoads part first blocks 0 d.cuts block_loads
  pub ranges_weigh : MatchFloor d.floor (Unit {0}) (λ stops. AreRangeLoads part first blocks 1 stops fence_loads)

-- each of the first n numbers is the sum of those of two lists
abbrev pub AreSums : ℕ → List ℕ → List ℕ → List ℕ → Type 0
AreSums n one other sums =
    (b : ℕ) → b < n → slice_index sums b ≡ slice_index one b + slice_index other b

-- a fact of all loads of this many elements of whose ranges these numbers are the loads
abbrev pub WhereWeights : {A : Type 0} → ℕ → ℕ → Division A → List ℕ → List ℕ → (List ℕ → Type 0) → Type 0
WhereWeights elements blocks d block_loads fence_loads fact =
    (loads : List ℕ) → length loads ≡ elements → AreWeights loads blocks d block_loads fence_loads → fact loads

-- what the first part of a chain has of the ranges are the loads of the ranges in this part
abbrev pub FirstWeighs : {A : Type 0} → List ℕ → ℕ → Division A → Type 0
FirstWeighs part blocks d =
    (block_loads fence_loads : List ℕ) → ArePartWeights part 0 blocks d block_loads fence_loads → AreWeights part blocks d block_loads fence_loads

-- the loads of the ranges in the parts so far, with what the next part has of them, are those in all these parts
abbrev pub NextWeighs : {A : Type 0} → List ℕ → List ℕ → ℕ → Division A → Type 0
NextWeighs before part blocks d =
    (blocks_before fence_before blocks_here fence_here : List ℕ) →
    AreWeights before blocks d blocks_before fence_before →
    ArePartWeights part (length before) blocks d blocks_here fence_here → (block_sums fence_sums : List ℕ)
    → AreSums blocks blocks_before blocks_here block_sums → AreSums blocks fence_before fence_here fence_sums
    → AreWeights (before ++ part) blocks d block_sums fence_sums

-- no number of the first n is above the bottleneck
abbrev pub NoneHeavy : List ℕ → ℕ → ℕ → Type 0
NoneHeavy numbers n bottleneck = (b : ℕ) → b < n → slice_index numbers b ≤ bottleneck

-- no number of the first n, numbered from 1, is below the bottleneck
abbrev pub NoneLighter : List ℕ → ℕ → ℕ → Type 0
NoneLighter numbers n bottleneck =
    (i : ℕ) → 0 < i → i ≤ n → bottleneck ≤ slice_index numbers (i - 1)

-- a fence for a bottleneck, by the loads of its ranges
pub record IsWeighedFence (elements blocks bottleneck : ℕ) (fence_loads stops : List ℕ) : Type 0 where
  pub counted : length stops ≡ blocks + 1
  pub starts : slice_index stops 0 ≡ 0
  pub ordered : IsNonDecreasing stops
  pub ends : slice_index stops blocks < elements
  pub heavy : NoneLighter fence_loads blocks bottleneck

-- the floor shows by these numbers that no division has a peak below the bottleneck
abbrev pub HoldsBy : {A : Type 0} → ℕ → ℕ → ℕ → List ℕ → Floor A → Type 0
HoldsBy elements blocks bottleneck fence_loads floor =
    MatchFloor floor (bottleneck ≡ 0) (IsWeighedFence elements blocks bottleneck fence_loads)

-- the cuts divide this many elements, no number of a block is above the bottleneck, and the floor holds by these numbers
pub record IsWeighed {A : Type 0} (elements blocks : ℕ) (d : Division A) (block_loads fence_loads : List ℕ) : Type 0 where
  pub divides : IsDivision 0 elements blocks d.cuts
  pub within : NoneHeavy block_loads blocks d.bottleneck
  pub floor_holds : HoldsBy elements blocks d.bottleneck fence_loads d.floor

-- a flaw of a division that applies by these numbers, whatever else is wrong
abbrev pub HasWeightFlaw : {A : Type 0} → ℕ → ℕ → Division A → List ℕ → List ℕ → Flaw → Type 0
HasWeightFlaw elements blocks d block_loads fence_loads CutCount = length d.cuts ≢ blocks + 1
HasWeightFlaw elements blocks d block_loads fence_loads CutStart = slice_index d.cuts 0 ≢ 0
HasWeightFlaw elements blocks d block_loads fence_loads CutOrder = Falls d.cuts
HasWeightFlaw elements blocks d block_loads fence_loads CutEnd = slice_index d.cuts blocks ≢ elements
HasWeightFlaw elements blocks d block_loads fence_loads (Heavy b) =
    (b < blocks) × (d.bottleneck < slice_index block_loads b)
HasWeightFlaw elements blocks d block_loads fence_loads FenceCount =
    MatchFloor d.floor ⊥ (λ s. length s ≢ blocks + 1)
HasWeightFlaw elements blocks d block_loads fence_loads FenceStart =
    MatchFloor d.floor ⊥ (λ s. slice_index s 0 ≢ 0)
HasWeightFlaw elements blocks d block_loads fence_loads FenceOrder = MatchFloor d.floor ⊥ Falls
HasWeightFlaw elements blocks d block_loads fence_loads FenceEnd =
    MatchFloor d.floor ⊥ (λ s. elements ≤ slice_index s blocks)
HasWeightFlaw elements blocks d block_loads fence_loads (FenceLight i) =
    MatchFloor d.floor ⊥ (λ s. (0 < i) × (i ≤ blocks) × (slice_index fence_loads (i - 1) < d.bottleneck))
HasWeightFlaw elements blocks d block_loads fence_loads ZeroFloor =
    MatchFloor d.floor (d.bottleneck ≢ 0) (λ _. ⊥)
HasWeightFlaw elements blocks d block_loads fence_loads _ = ⊥

-- the first of the first n numbers that is above the bottleneck
pub record IsFirstHeavy (numbers : List ℕ) (n bottleneck b : ℕ) : Type 0 where
  pub inside : b < n
  pub heavy : bottleneck < slice_index numbers b
  pub earlier : NoneHeavy numbers b bottleneck

-- the first of the first n numbers, numbered from 1, that is below the bottleneck
pub record IsFirstLighter (numbers : List ℕ) (n bottleneck i : ℕ) : Type 0 where
  pub positive : 0 < i
  pub inside : i ≤ n
  pub light : slice_index numbers (i - 1) < bottleneck
  pub earlier : NoneLighter numbers (i - 1) bottleneck
