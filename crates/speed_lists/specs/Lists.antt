-- Divisions over PEs of unequal speed as plain lists, and when a call on them is refused.
use Rattle.std.specs.Prelude.{◌≡◌, ℕ, ◌+◌, ◌^◌, ◌<◌, ◌≤◌, List, [], ◌∷◌, length, sum}
use Rattle.chain_partition.specs.declared.error.ChainError.{ChainError}
use Rattle.chain_partition.specs.declared.error.ChainError.TheVariants as Chain
use Rattle.speed_certificates.specs.declared.division.TimeFloor.{TimeFloor}
use Rattle.speed_certificates.specs.declared.division.TimeFloor.TheVariants.{Idle, Fence}
use Rattle.speed_certificates.specs.declared.division.TimedDivision.{TimedDivision}
use Rattle.speed_certificates.specs.declared.flaw.TimeFlaw.{TimeFlaw}
use Rattle.speed_certificates.specs.declared.flaw.TimeFlaw.TheVariants.{NoSpeed, CutCount, CutStart, CutOrder, CutEnd, Late, IdleRange, IdleEarly, FenceCount, FenceStart, FenceOrder, FenceEnd, FenceEarly}
use Rattle.speed_certificates.specs.declared.limits.TheConstants.SpeedLimits.{PES}
use Rattle.speed_certificates.specs.declared.time.EndTime.{EndTime}
use Rattle.speed_certificates.specs.Speeds.{Pes, ArePes}
use Rattle.speed_lists.specs.declared.error.SpeedError.{SpeedError}
use Rattle.speed_lists.specs.declared.error.SpeedError.TheVariants.{BadInput, BadSpeed, BadLoad, OutOfMemory}

-- why loads are refused that are no chain
abbrev pub speed_error : ChainError → SpeedError
speed_error Chain.TooLong = BadInput
speed_error Chain.TooHeavy = BadLoad
speed_error Chain.OutOfMemory = OutOfMemory

-- the PEs of these lists
abbrev pub pes_of : List ℕ → List ℕ → Pes
pes_of speeds background = record { speeds = speeds; background = background }

-- Why a call was refused: its input was not in order; or it was, and a speed or a background is out of range; or neither, and the
-- loads add up to 2^63 or more; or none of these, and memory was refused.
abbrev pub IsSpeedRefusal : Type 0 → Pes → List ℕ → SpeedError → Type 0
IsSpeedRefusal in_order pes loads BadInput = ¬ in_order
IsSpeedRefusal in_order pes loads BadSpeed = in_order × ¬ (ArePes pes)
IsSpeedRefusal in_order pes loads BadLoad = in_order × ArePes pes × (2 ^ 63 ≤ sum loads)
IsSpeedRefusal in_order pes loads OutOfMemory = in_order × ArePes pes × (sum loads < 2 ^ 63)

-- at least one PE, and a background for each
pub record AreCounted (speeds background : List ℕ) : Type 0 where
  pub some_pe : 1 ≤ length speeds
  pub few_pes : length speeds ≤ PES
  pub paired : length speeds ≡ length background

-- a chain and PEs, and room for the division
pub record IsDivisionAsked (loads speeds background cuts stops : List ℕ) : Type 0 where
  pub few : length loads < 2 ^ 32
  pub counted : AreCounted speeds background
  pub cuts_room : length cuts ≡ length speeds + 1
  pub stops_room : length stops ≡ length speeds + 1

-- the stops of a floor, and the PE that it names, or 0
abbrev pub stops_in : {A : Type 0} → TimeFloor A → List ℕ
stops_in (Idle p) = []
stops_in (Fence stops) = stops

abbrev pub idle_in : {A : Type 0} → TimeFloor A → ℕ
idle_in (Idle p) = p
idle_in (Fence stops) = 0

-- the floor with these stops, which names this PE where there are none
abbrev pub floor_of : {A : Type 0} → ℕ → List ℕ → TimeFloor A
floor_of idle [] = Idle idle
floor_of idle (stop ∷ stops) = Fence (stop ∷ stops)

-- the division of these parts
abbrev pub timed_of : {A : Type 0} → EndTime → List ℕ → List ℕ → ℕ → TimedDivision A
timed_of time cuts stops idle = record { time = time; cuts = cuts; floor = floor_of idle stops }

-- the number of a flaw for callers: that of the same flaw of a division of the loads alone, and 39 to 43 for the others
abbrev pub time_flaw_number : TimeFlaw → ℕ
time_flaw_number CutCount = 1
time_flaw_number CutStart = 2
time_flaw_number CutOrder = 3
time_flaw_number CutEnd = 4
time_flaw_number FenceCount = 6
time_flaw_number FenceStart = 7
time_flaw_number FenceOrder = 8
time_flaw_number FenceEnd = 9
time_flaw_number NoSpeed = 39
time_flaw_number (Late p) = 40
time_flaw_number IdleRange = 41
time_flaw_number IdleEarly = 42
time_flaw_number (FenceEarly i) = 43
