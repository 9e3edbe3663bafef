-- PEs that do not differ, and the division of the loads alone.
use Rattle.std.specs.Prelude.{◌≡◌, ℕ, ◌<◌}
use Rattle.lb_certificates.specs.declared.division.Division.{Division}
use Rattle.lb_certificates.specs.declared.division.Floor.{Floor}
use Rattle.lb_certificates.specs.declared.division.Floor.TheVariants as Plain
use Rattle.speed_certificates.specs.declared.division.TimeFloor.{TimeFloor}
use Rattle.speed_certificates.specs.declared.division.TimeFloor.TheVariants.{Idle, Fence}
use Rattle.speed_certificates.specs.declared.division.TimedDivision.{TimedDivision}
use Rattle.speed_certificates.specs.Speeds.{Pes, ArePes, count, speed_of, background_of}

-- PEs that all have the speed of the first, and no background
pub record AreEqual (pes : Pes) : Type 0 where
  pub are : ArePes pes
  pub speeds : (p : ℕ) → p < count pes → speed_of pes p ≡ speed_of pes 0
  pub idle : (p : ℕ) → p < count pes → background_of pes p ≡ 0

-- without background, a floor names a PE only where the time is 0
abbrev pub plain_floor : {A : Type 0} → TimeFloor A → Floor A
plain_floor (Idle p) = Plain.Zero
plain_floor (Fence stops) = Plain.Fence stops

-- the work of the time as a bottleneck, and the same cuts and floor
abbrev pub plain_division : {A : Type 0} → TimedDivision A → Division A
plain_division d = record { bottleneck = d.time.work; cuts = d.cuts; floor = plain_floor d.floor }
