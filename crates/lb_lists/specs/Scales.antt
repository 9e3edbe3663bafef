-- Loads that were measured as binary64 numbers, counted in whole units.
use Rattle.std.specs.Prelude.{◌≡◌, ◌⊎◌, ℕ, zero, suc, ◌+◌, ◌-◌, ◌*◌, ◌/◌, ◌^◌, ◌<◌, ◌≤◌, nat_le, if◌then◌else◌, List, length, map, take, All, true, false, slice_index_or}
use Rattle.std.specs.Float.{Float, nan, inf, fin, float_zero}
use lib.Ieee.{up, down}
use Rattle.lb_lists.specs.declared.limits.TheConstants.RunLimits.{ELEMENTS}
use Rattle.lb_lists.specs.declared.scaling.ScaleError.{ScaleError}
use Rattle.lb_lists.specs.declared.scaling.ScaleError.TheVariants.{BadInput, NotANumber, Negative, Infinite}

-- finite, and not below 0: of the two zeros either
abbrev pub IsMeasured : Float → Type 0
IsMeasured nan = ⊥
IsMeasured (inf below) = ⊥
IsMeasured (fin below m e) = (below ≡ false) ⊎ (m ≡ 0)

-- such a number in units of 2^-1074, the least number above 0: each is a multiple of it
abbrev pub ticks : Float → ℕ
ticks nan = 0
ticks (inf below) = 0
ticks (fin below m e) = m * up e * 2 ^ 1074 / down e

-- what is wrong with a load that is no such number
abbrev pub IsLoadFault : Float → ScaleError → Type 0
IsLoadFault nan error = error ≡ NotANumber
IsLoadFault (inf true) error = error ≡ Negative
IsLoadFault (inf false) error = error ≡ Infinite
IsLoadFault (fin below m e) error = (error ≡ Negative) × (below ≡ true) × (0 < m)

-- what is wrong with the first such load
pub record IsFirstScaleFault (loads : List Float) (error : ScaleError) : Type 0 where
  pub at : ℕ
  pub inside : at < length loads
  pub before : All IsMeasured (take at loads)
  pub wrong : IsLoadFault (slice_index_or loads at float_zero) error

-- there is one scaled load for each load, and there are not too many
abbrev pub IsRoomFor : ℕ → List Float → Type 0
IsRoomFor room loads = (room ≡ length loads) × (length loads ≤ ELEMENTS)

-- Why loads were refused: there is not one scaled load for each, or there are too many; or the lengths are right, and this is
-- the fault of the first load that is not a measured one.
abbrev pub IsScaleRefusal : List Float → ℕ → ScaleError → Type 0
IsScaleRefusal loads room BadInput = ¬ (IsRoomFor room loads)
IsScaleRefusal loads room error = IsRoomFor room loads × IsFirstScaleFault loads error

-- the ticks of all loads
abbrev pub in_ticks : List Float → List ℕ
in_ticks loads = map ticks loads

-- the number of units of 2^power ticks in each load, rounded down
abbrev pub counts : ℕ → List Float → List ℕ
counts power loads = map (λ load. ticks load / 2 ^ power) loads

-- none of these numbers of units is above a limit
abbrev pub AreSmallIn : ℕ → ℕ → List Float → Type 0
AreSmallIn limit power loads = All (λ load. ticks load / 2 ^ power ≤ limit) loads

-- the least number k, from `first` to `more` above it, for which 2^k is not below n
abbrev pub least_power : ℕ → ℕ → ℕ → ℕ
least_power zero first n = first
least_power (suc more) first n =
    if nat_le n (2 ^ first) then first else least_power more (first + 1) n

-- The limit of each of n scaled loads, by which they add up to less than 2^63: it is the greatest number of 63 - k bits,
-- where k is the least number from 16 on for which 2^k is not below n. So of up to 65,536 loads it is that of a snapshot's
-- load.
abbrev pub load_limit : ℕ → ℕ
load_limit n = 2 ^ (63 - least_power 16 16 n) - 1

-- The unit is a power of two, and the loads are counted in it, rounded down: none of these counts is above the limit, and
-- in no finer unit would that be so.
pub record IsScaled (loads : List Float) (unit : Float) (scaled : List ℕ) : Type 0 where
  pub power : ℕ
  pub measured : IsMeasured unit
  pub unit_is : ticks unit ≡ 2 ^ power
  pub counted : scaled ≡ counts power loads
  pub small : AreSmallIn (load_limit (length loads)) power loads
  pub finest : (other : ℕ) → other < power → ¬ (AreSmallIn (load_limit (length loads)) other loads)
