-- What can be wrong with a division over PEs of unequal speed, and which flaw of several is reported.
use Rattle.std.specs.Prelude.{◌≡◌, ◌≢◌, ℕ, ◌+◌, ◌-◌, ◌*◌, ◌<◌, ◌≤◌, List, length, slice_index}
use Rattle.lb_certificates.specs.Flaws.{Falls}
use Rattle.speed_certificates.specs.declared.division.TimedDivision.{TimedDivision}
use Rattle.speed_certificates.specs.declared.flaw.TimeFlaw.{TimeFlaw}
use Rattle.speed_certificates.specs.declared.flaw.TimeFlaw.TheVariants.{NoSpeed, CutCount, CutStart, CutOrder, CutEnd, Late, IdleRange, IdleEarly, FenceCount, FenceStart, FenceOrder, FenceEnd, FenceEarly}
use Rattle.speed_certificates.specs.Speeds.{Pes, count, speed_of, background_of, work_of}
use Rattle.speed_certificates.specs.Certificate.{MatchFloor, range_work}

-- a flaw of a division that applies, whatever else is wrong
abbrev pub HasFlaw : {A : Type 0} → List ℕ → Pes → TimedDivision A → TimeFlaw → Type 0
HasFlaw loads pes d NoSpeed = d.time.speed ≡ 0
HasFlaw loads pes d CutCount = length d.cuts ≢ count pes + 1
HasFlaw loads pes d CutStart = slice_index d.cuts 0 ≢ 0
HasFlaw loads pes d CutOrder = Falls d.cuts
HasFlaw loads pes d CutEnd = slice_index d.cuts (count pes) ≢ length loads
HasFlaw loads pes d (Late p) =
    (p < count pes) × (d.time.work * speed_of pes p < work_of loads pes d.cuts p * d.time.speed)
HasFlaw loads pes d IdleRange = MatchFloor d.floor (λ p. count pes ≤ p) (λ _. ⊥)
HasFlaw loads pes d IdleEarly =
    MatchFloor d.floor (λ p. (p < count pes) × (background_of pes p * d.time.speed < d.time.work * speed_of pes p)) (λ _. ⊥)
HasFlaw loads pes d FenceCount = MatchFloor d.floor (λ _. ⊥) (λ s. length s ≢ count pes + 1)
HasFlaw loads pes d FenceStart = MatchFloor d.floor (λ _. ⊥) (λ s. slice_index s 0 ≢ 0)
HasFlaw loads pes d FenceOrder = MatchFloor d.floor (λ _. ⊥) Falls
HasFlaw loads pes d FenceEnd = MatchFloor d.floor (λ _. ⊥) (λ s. length loads ≤ slice_index s (count pes))
HasFlaw loads pes d (FenceEarly i) =
    MatchFloor d.floor (λ _. ⊥) (λ s. (0 < i) × (i ≤ count pes) × (range_work loads pes s i * d.time.speed < d.time.work * speed_of pes (i - 1)))

-- the flaw's number in the order in which flaws are reported
abbrev pub flaw_number : TimeFlaw → ℕ
flaw_number NoSpeed = 1
flaw_number CutCount = 2
flaw_number CutStart = 3
flaw_number CutOrder = 4
flaw_number CutEnd = 5
flaw_number (Late p) = 6
flaw_number IdleRange = 7
flaw_number IdleEarly = 8
flaw_number FenceCount = 9
flaw_number FenceStart = 10
flaw_number FenceOrder = 11
flaw_number FenceEnd = 12
flaw_number (FenceEarly i) = 13

-- the PE or the stop that the flaw names, and 0 where it names none
abbrev pub flaw_place : TimeFlaw → ℕ
flaw_place (Late p) = p
flaw_place (FenceEarly i) = i
flaw_place _ = 0

-- the flaw that is reported: of those that apply, the one of the least number and, of these, of the least place
pub record IsFirst (applies : TimeFlaw → Type 0) (flaw : TimeFlaw) : Type 0 where
  pub applies_itself : applies flaw
  pub no_lower_number : (other : TimeFlaw) → flaw_number other < flaw_number flaw → ¬ (applies other)
  pub no_lower_place : (other : TimeFlaw) → flaw_number other ≡ flaw_number flaw → flaw_place other < flaw_place flaw → ¬ (applies other)
