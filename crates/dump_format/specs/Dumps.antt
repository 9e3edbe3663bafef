-- What a dump contains: a snapshot and, where one was recorded, a decision with the number of PEs that it is for.
use Rattle.std.specs.Prelude.{◌≡◌, ℕ, ◌+◌, ◌^◌, ◌<◌, ◌≤◌, List, length, All, ℤ, Option, Some, None, FitsSigned}
use Rattle.std.specs.Int.{w64}
use Rattle.chare_index.specs.declared.limits.TheConstants.Limits.{PES}
use Rattle.lb_snapshot.specs.Measured.{Taken, IsTaken, IsLoads, IsSizes}
use Rattle.lb_certificates.specs.Certificate.{MatchFloor}
use Rattle.dump_format.specs.declared.recorded.Recorded.{Recorded}

-- a snapshot, and a decision beside it or none
pub record Dumped (A : Type 0) : Type 0 where
  pub snapshot : Taken
  pub recorded : Option (Recorded A)

-- the limits and rules of a snapshot
pub record IsSnapshot (s : Taken) : Type 0 where
  pub placed : IsTaken s.procs s.loads s.sizes
  pub loads : IsLoads s.loads
  pub sizes : IsSizes s.sizes

-- The lists of a recorded decision have the lengths that follow from its target, and there are no more moves than elements,
-- each of an element that exists.
pub record IsRecorded {A : Type 0} (elements : ℕ) (r : Recorded A) : Type 0 where
  pub some_target : 0 < r.target
  pub few_targets : r.target ≤ PES
  pub cuts : length r.decision.division.cuts ≡ r.target + 1
  pub stops : MatchFloor r.decision.division.floor (Unit {0}) (λ stops. length stops ≡ r.target + 1)
  pub names : length r.decision.naming ≡ r.target
  pub block_prices : length r.decision.prices.u ≡ r.target
  pub pe_prices : length r.decision.prices.v ≡ r.target
  pub few_moves : length r.decision.moves ≤ elements
  pub moved_elements : All (λ move. move.0 < elements) r.decision.moves

-- if a decision is recorded, its lists have these lengths
abbrev pub MayRecord : {A : Type 0} → ℕ → Option (Recorded A) → Type 0
MayRecord elements None = Unit {0}
MayRecord elements (Some r) = IsRecorded elements r

-- numbers of four bytes
abbrev pub AreWords : List ℕ → Type 0
AreWords words = All (λ n. n < 2 ^ 32) words

-- prices of eight bytes
abbrev pub ArePrices : List ℤ → Type 0
ArePrices prices = All (λ price. FitsSigned w64 price) prices

-- every number of a recorded decision fits its field
pub record AreFields {A : Type 0} (r : Recorded A) : Type 0 where
  pub bottleneck : r.decision.division.bottleneck < 2 ^ 64
  pub cuts : AreWords r.decision.division.cuts
  pub stops : MatchFloor r.decision.division.floor (Unit {0}) AreWords
  pub names : AreWords r.decision.naming
  pub block_prices : ArePrices r.decision.prices.u
  pub pe_prices : ArePrices r.decision.prices.v
  pub moved : r.decision.moved < 2 ^ 64
  pub present : All (λ move. move.1 < PES) r.decision.moves
  pub planned : All (λ move. move.2 < PES) r.decision.moves

-- if a decision is recorded, its numbers fit their fields
abbrev pub MayFit : {A : Type 0} → Option (Recorded A) → Type 0
MayFit None = Unit {0}
MayFit (Some r) = AreFields r

-- a dump that keeps its rules
pub record IsDump {A : Type 0} (d : Dumped A) : Type 0 where
  pub snapshot : IsSnapshot d.snapshot
  pub step : d.snapshot.step < 2 ^ 32
  pub recorded : MayRecord (length d.snapshot.loads) d.recorded
  pub fields : MayFit d.recorded
