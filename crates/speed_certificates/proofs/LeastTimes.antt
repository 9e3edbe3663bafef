-- A certified division has the least greatest end time.
use Rattle.std.proofs.Common.{◌≡◌, ℕ, ◌+◌, ◌-◌, ◌*◌, ◌<◌, ◌≤◌, List, length, slice_index, arith, subst}
use Rattle.std.proofs.Math.Nat.{mul-le-mul_right, le_of_mul-le-mul_left}
use Rattle.lb_snapshot.specs.Measured.{load}
use Rattle.lb_certificates.specs.Chain.{IsDivision}
use Rattle.speed_certificates.specs.declared.time.EndTime.{EndTime}
use Rattle.speed_certificates.specs.declared.division.TimeFloor.{TimeFloor}
use Rattle.speed_certificates.specs.declared.division.TimeFloor.TheVariants.{Idle, Fence}
use Rattle.speed_certificates.specs.declared.division.TimedDivision.{TimedDivision}
use Rattle.speed_certificates.specs.Speeds.{Pes, ArePes, count, speed_of, background_of, EndsFrom, work_of, IsGreatestTime, IsLeastTime, IsNoLater}
use Rattle.speed_certificates.specs.Certificate.{NoneEarly, IsTimeFence, HoldsFrom, IsTimeCertified}
use Rattle.speed_certificates.proofs.LateSomewhere.{Grows, AreLate, SomeLate, late_somewhere}

-- more work ends no earlier
pub from_grows : (pes : Pes) (n v : ℕ) → Grows (EndsFrom pes n v)
from_grows pes n v p a b more from = omega (arith, from, mul-le-mul_right v more)

-- the range up to stop p + 1, by the stop before it
pub late_at : (xs : List ℕ) (pes : Pes) (t : EndTime) (stops : List ℕ) (p : ℕ) → NoneEarly xs pes t stops (count pes) → p < count pes
    → EndsFrom pes t.work t.speed p (background_of pes p + load xs (slice_index stops p) (slice_index stops (p + 1) + 1))
late_at xs pes t stops p none inside =
    let e : p + 1 - 1 ≡ p = omega arith in
    subst (λ k. EndsFrom pes t.work t.speed k (background_of pes k + load xs (slice_index stops k) (slice_index stops (p + 1) + 1))) e
    (none (p + 1) (omega arith) (omega arith))

pub fence_late : (xs : List ℕ) (pes : Pes) (t : EndTime) (stops : List ℕ) → IsTimeFence xs pes t stops → AreLate (EndsFrom pes t.work t.speed) xs pes stops
fence_late xs pes t stops fence =
    record {
      starts = fence.starts;
      onward = λ p inside. fence.ordered p (p + 1) 0 (omega arith) (omega (arith, fence.counted));
      ends = fence.ends;
      late = λ p inside. late_at xs pes t stops p fence.none_early inside;
    }

-- with a floor some PE of each division ends at the time or later
pub floor_late : {A : Type 0} (xs : List ℕ) (pes : Pes) (t : EndTime) (floor : TimeFloor A) (cuts : List ℕ) → HoldsFrom xs pes t floor
    → IsDivision 0 (length xs) (count pes) cuts → SomeLate (EndsFrom pes t.work t.speed) xs pes cuts
floor_late xs pes t (Idle p) cuts holds division =
    record {
      pe = p;
      inside = holds.inside;
      late = from_grows pes t.work t.speed p (background_of pes p) (work_of xs pes cuts p) (omega arith) holds.from;
    }
floor_late xs pes t (Fence stops) cuts holds division =
    late_somewhere (EndsFrom pes t.work t.speed) xs pes stops cuts (from_grows pes t.work t.speed) (fence_late xs pes t stops holds) division

-- each PE has a speed
pub some_speed : (pes : Pes) (p : ℕ) → ArePes pes → p < count pes → 1 ≤ speed_of pes p
some_speed pes p are inside = (are.speeds p 0 inside).0

-- where a PE ends at the time n / v or later, and by the time m / w, the one is no later than the other
pub no_later : (n v m w speed work : ℕ) → 1 ≤ speed → n * speed ≤ work * v → work * w ≤ m * speed → n * w ≤ m * v
no_later n v m w speed work some from by =
    le_of_mul-le-mul_left {m = n * w} {n = m * v} {k = speed} (omega (arith, mul-le-mul_right w from, mul-le-mul_right v by)) some

-- the greatest end time of a division is no earlier than a time at which some PE ends or later
pub greatest_from : (xs : List ℕ) (pes : Pes) (t u : EndTime) (cuts : List ℕ) → ArePes pes → SomeLate (EndsFrom pes t.work t.speed) xs pes cuts
    → IsGreatestTime xs pes cuts u → IsNoLater t u
greatest_from xs pes t u cuts are late greatest =
    no_later t.work t.speed u.work u.speed (speed_of pes late.pe) (work_of xs pes cuts late.pe) (some_speed pes late.pe are late.inside) late.late
    (greatest.none_later late.pe late.inside)

-- a certified division is least, and its time is its greatest end time
pub least_from_certified : {A : Type 0} (xs : List ℕ) (pes : Pes) (d : TimedDivision A) → ArePes pes → IsTimeCertified xs pes d → IsLeastTime xs pes d.cuts d.time
least_from_certified xs pes d are h =
    let late = floor_late xs pes d.time d.floor d.cuts h.floor_holds h.divides in
    record {
      some_speed = h.some_speed;
      divides = h.divides;
      greatest = record {
        none_later = h.none_late;
        reached = (late.pe, late.inside, omega (arith, late.late, h.none_late late.pe late.inside));
      };
      least = λ others u division some greatest. greatest_from xs pes d.time u others are
          (floor_late xs pes d.time d.floor others h.floor_holds division) greatest;
      some_late = λ others division.
          let found = floor_late xs pes d.time d.floor others h.floor_holds division in
          (found.pe, found.inside, found.late);
    }
