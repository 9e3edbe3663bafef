-- Running sums of a chain: one in 16 is kept, and with it the load of any range of elements is two short sums.
use Rattle.std.specs.Prelude.{◌≡◌, ℕ, ◌+◌, ◌*◌, ◌/◌, ◌^◌, ◌<◌, ◌≤◌, List, ◌++◌, length, slice_index, sum}
use Rattle.lb_snapshot.specs.Measured.{load}
use Rattle.chain_partition.specs.declared.error.ChainError.{ChainError}
use Rattle.chain_partition.specs.declared.error.ChainError.TheVariants.{TooLong, TooHeavy, OutOfMemory}

-- the loads of a chain that can be divided: the number of elements fits 32 bits, and the sum of any two ranges 64
pub record IsChain (loads : List ℕ) : Type 0 where
  pub few : length loads < 2 ^ 32
  pub light : sum loads < 2 ^ 63

-- why loads are refused as a chain, in the order of the reasons
abbrev pub IsRefused : List ℕ → ChainError → Type 0
IsRefused loads TooLong = 2 ^ 32 ≤ length loads
IsRefused loads TooHeavy = (length loads < 2 ^ 32) × (2 ^ 63 ≤ sum loads)
IsRefused loads OutOfMemory = IsChain loads

-- the samples up to number n: the load of the elements before each 16th one
pub record AreSamples (loads : List ℕ) (n : ℕ) (samples : List ℕ) : Type 0 where
  pub counted : length samples ≡ n + 1
  pub each : (k : ℕ) → k ≤ n → slice_index samples k ≡ load loads 0 (k * 16)

-- a chain, and all of its samples
pub record IsSampled (loads samples : List ℕ) : Type 0 where
  pub chain : IsChain loads
  pub summed : AreSamples loads (length loads / 16) samples

-- the new list is the old one, followed by the samples of a chain
abbrev pub AppendsSamples : List ℕ → List ℕ → List ℕ → Type 0
AppendsSamples loads old new = (samples : List ℕ) × (new ≡ old ++ samples) × IsSampled loads samples
