-- The division by the least number of ticks is the chosen one.
use Rattle.std.proofs.Common.{◌≡◌, ℕ, suc, zero, ◌+◌, ◌-◌, ◌*◌, ◌<◌, ◌≤◌, inl, inr, List, length, slice_index, arith, subst}
use Rattle.std.proofs.lemmas.Bool.{cases_lt, cases_eq}
use Rattle.std.proofs.Math.Nat.{mul-le-mul_left, mul-le-mul_right, le_of_mul-le-mul_right}
use Rattle.lb_snapshot.specs.Measured.{load}
use Rattle.lb_certificates.specs.Chain.{IsDivision}
use Rattle.lb_certificates.proofs.Chains.{load_wider}
use Rattle.speed_certificates.specs.declared.time.EndTime.{EndTime}
use Rattle.speed_certificates.specs.declared.division.TimeFloor.{TimeFloor}
use Rattle.speed_certificates.specs.declared.division.TimeFloor.TheVariants.{Idle, Fence}
use Rattle.speed_certificates.specs.declared.division.TimedDivision.{TimedDivision}
use Rattle.speed_certificates.specs.Speeds.{Pes, ArePes, count, speed_of, background_of, work_of, EndsFrom}
use Rattle.speed_certificates.specs.Certificate.{IsTimeCertified, HoldsFrom}
use Rattle.speed_certificates.proofs.LeastTimes.{floor_late, some_speed, least_from_certified}
use Rattle.speed_partition.specs.Chosen.{IsChosen, IsFirstLatest, IsLeastFloor, IsLeastTimeFence, NoneIdle}
use Rattle.speed_partition.specs.Greedy.{CanEnd, AllIdleBy, IsGreedyBy}
use Rattle.speed_partition.specs.Search.{IsLeastTicks}
use Rattle.speed_partition.proofs.GreedyTimes.{greedy_divides, greedy_full, greedy_inside, greedy_onward, greedy_ordered, greedy_past, past_stops}
use Rattle.speed_partition.specs.Ticks.{AreApart, IsScale}
use Rattle.speed_partition.proofs.TickTimes.{IsInTick, by_sooner, by_time, by_ticks, from_past, past_from}

-- by the least number of ticks the greedy ends divide all elements
pub greedy_at_least : (xs : List ℕ) (pes : Pes) (ticks scale : ℕ) (ends : List ℕ) → IsLeastTicks xs pes scale ticks
    → IsGreedyBy xs pes ticks scale (count pes) ends → IsDivision 0 (length xs) (count pes) ends
greedy_at_least xs pes ticks scale ends least greedy =
    elim (cases_eq (slice_index ends (count pes)) (length xs)) [
      | inl full ↦ greedy_divides xs pes ticks scale ends greedy full
      | inr short ↦
          let some_left : slice_index ends (count pes) < length xs = omega (arith, short, greedy_inside xs pes ticks scale (count pes) ends greedy (count pes) (omega arith)) in
          absurd (past_stops xs pes ticks scale ends (greedy_past xs pes ticks scale ends greedy some_left) least.fits)
    ]

-- the greatest end time of the greedy ends is in that tick
pub latest_in_tick : (xs : List ℕ) (pes : Pes) (ticks scale : ℕ) (ends : List ℕ) (t : EndTime) → IsScale pes scale
    → IsLeastTicks xs pes scale ticks → IsGreedyBy xs pes ticks scale (count pes) ends → IsFirstLatest xs pes ends (count pes) t
    → IsInTick t.work t.speed ticks scale
latest_in_tick xs pes ticks scale ends t is_scale least greedy latest =
    record {
      some = omega (arith, latest.speed_is, some_speed pes latest.pe is_scale.are latest.inside);
      some_tick = is_scale.some;
      needed = record {
        by = rw (latest.work_is, latest.speed_is) (greedy.greedy latest.pe latest.inside).ends_by;
        least = λ sooner before. elim (cases_lt (sooner * t.speed) (t.work * scale)) [
          | inl past ↦ past
          | inr by ↦ absurd (least.stops sooner before (
            ends,
            greedy_at_least xs pes ticks scale ends least greedy,
            λ p inside.
                by_sooner t.work t.speed sooner scale (work_of xs pes ends p) (speed_of pes p) some by (latest.none_later p inside),
          ))
        ];
      };
    }
  where
    some : 1 ≤ t.speed
    some = omega (arith, latest.speed_is, some_speed pes latest.pe is_scale.are latest.inside)

-- times of a PE of these, by ticks and exactly
pub record Ticked (pes : Pes) (scale ticks : ℕ) (t : EndTime) : Type 0 where
  pub are : ArePes pes
  pub in_tick : IsInTick t.work t.speed ticks scale
  pub apart : (p : ℕ) → p < count pes → AreApart scale t.speed (speed_of pes p) × AreApart scale (speed_of pes p) t.speed

pub ticked_from : (xs : List ℕ) (pes : Pes) (ticks scale : ℕ) (ends : List ℕ) (t : EndTime) → IsScale pes scale
    → IsLeastTicks xs pes scale ticks → IsGreedyBy xs pes ticks scale (count pes) ends → IsFirstLatest xs pes ends (count pes) t → Ticked pes scale ticks t
ticked_from xs pes ticks scale ends t is_scale least greedy latest =
    record {
      are = is_scale.are;
      in_tick = latest_in_tick xs pes ticks scale ends t is_scale least greedy latest;
      apart = λ p inside. rw latest.speed_is (is_scale.apart latest.pe p latest.inside inside, is_scale.apart p latest.pe inside latest.inside);
    }

-- what is greedy by the tick is greedy by the time
pub greedy_by_time : (xs : List ℕ) (pes : Pes) (ticks scale : ℕ) (ends : List ℕ) (t : EndTime) → Ticked pes scale ticks t
    → IsGreedyBy xs pes ticks scale (count pes) ends → IsGreedyBy xs pes t.work t.speed (count pes) ends
greedy_by_time xs pes ticks scale ends t h greedy =
    record {
      counted = greedy.counted;
      starts = greedy.starts;
      greedy = λ p inside. record {
        inside = (greedy.greedy p inside).inside;
        ends_by = by_time t.work t.speed ticks scale (background_of pes p + load xs (slice_index ends p) (slice_index ends (p + 1)))
            (speed_of pes p) h.in_tick (some_speed pes p h.are inside) (h.apart p inside).0 (greedy.greedy p inside).ends_by;
        greatest = λ other within by. (greedy.greedy p inside).greatest other within
            (by_ticks t.work t.speed ticks scale (background_of pes p + load xs (slice_index ends p) other) (speed_of pes p) h.in_tick by);
      };
    }

-- where no PE ends at the time with an empty block, there is a tick before, and with empty blocks all end by it
pub tick_before : (pes : Pes) (scale ticks : ℕ) (t : EndTime) → Ticked pes scale ticks t → NoneIdle pes t (count pes) → 1 ≤ ticks
tick_before pes scale zero t h none =
    let none_left : t.work ≤ 0 = omega (arith, h.in_tick.needed.by, mul-le-mul_left t.work h.in_tick.some_tick) in
    absurd (omega (arith, none 0 h.are.some_pe, mul-le-mul_right (speed_of pes 0) none_left))
tick_before pes scale (suc k) t h none = omega arith

pub idle_before : (pes : Pes) (scale k : ℕ) (t : EndTime) → Ticked pes scale (k + 1) t → NoneIdle pes t (count pes) → AllIdleBy pes k scale
idle_before pes scale k t h none p inside =
    elim (cases_lt (k * speed_of pes p) (background_of pes p * scale)) [
      | inl past ↦ absurd (omega (arith, none p inside, from_past t.work t.speed k scale (background_of pes p) (speed_of pes p) h.in_tick (h.apart p inside).1 past))
      | inr by ↦ by
    ]

-- the greedy ends by the tick before are the least fence
pub fence_before : (xs : List ℕ) (pes : Pes) (scale k : ℕ) (t : EndTime) (ends : List ℕ) → Ticked pes scale (k + 1) t
    → ¬ (CanEnd xs pes k scale) → IsGreedyBy xs pes k scale (count pes) ends → IsLeastTimeFence xs pes t ends
fence_before xs pes scale k t ends h stops greedy =
    record {
      fence = record {
        counted = greedy.counted;
        starts = greedy.starts;
        ordered = greedy_ordered xs pes k scale (count pes) ends greedy;
        ends = some_left;
        none_early = λ i positive inside.
            let e : i - 1 + 1 ≡ i = omega arith in
            subst (λ j. EndsFrom pes t.work t.speed (i - 1) (background_of pes (i - 1) + load xs (slice_index ends (i - 1)) (slice_index ends j + 1))) e
            (from (i - 1) (omega arith));
      };
      least = λ p inside. record {
        onward = greedy_onward xs pes k scale (count pes) ends greedy p inside;
        from = from p inside;
        least = λ other onward late. elim (cases_lt other (slice_index ends (p + 1))) [
          | inl before ↦
              let wide : load xs (slice_index ends p) (other + 1) ≤ load xs (slice_index ends p) (slice_index ends (p + 1)) = load_wider xs _ _ _ _
              (omega arith) (omega (arith, onward)) (omega (arith, before)) in
              let past = past_from t.work t.speed (k + 1) scale (background_of pes p + load xs (slice_index ends p) (other + 1)) (speed_of pes p)
              k h.in_tick (some_speed pes p h.are inside) late (omega arith) in
              absurd (omega (
                arith,
                past,
                (greedy.greedy p inside).ends_by,
                mul-le-mul_right {m = background_of pes p + load xs (slice_index ends p) (other + 1)}
                    {n = background_of pes p + load xs (slice_index ends p) (slice_index ends (p + 1))} scale (omega (arith, wide)),
              ))
          | inr behind ↦ behind
        ];
      };
    }
  where
    some_left : slice_index ends (count pes) < length xs
    some_left = elim (cases_eq (slice_index ends (count pes)) (length xs)) [
      | inl full ↦ absurd (stops (greedy_full xs pes k scale ends greedy full))
      | inr short ↦ omega (arith, short, greedy_inside xs pes k scale (count pes) ends greedy (count pes) (omega arith))
    ]

    from : (p : ℕ) → p < count pes → EndsFrom pes t.work t.speed p (background_of pes p + load xs (slice_index ends p) (slice_index ends (p + 1) + 1))
    from p inside = from_past t.work t.speed k scale (background_of pes p + load xs (slice_index ends p) (slice_index ends (p + 1) + 1))
        (speed_of pes p) h.in_tick (h.apart p inside).1 ((greedy_past xs pes k scale ends greedy some_left).late p inside)

-- a least floor holds
pub floor_holds : {A : Type 0} (xs : List ℕ) (pes : Pes) (t : EndTime) (floor : TimeFloor A) → IsLeastFloor xs pes t floor → HoldsFrom xs pes t floor
floor_holds xs pes t (Idle p) h = h.idle
floor_holds xs pes t (Fence stops) h = h.1.fence

-- the parts of the chosen division
pub certified_from_parts : {A : Type 0} (xs : List ℕ) (pes : Pes) (d : TimedDivision A) → ArePes pes → IsDivision 0 (length xs) (count pes) d.cuts
    → IsFirstLatest xs pes d.cuts (count pes) d.time → IsLeastFloor xs pes d.time d.floor → IsTimeCertified xs pes d
certified_from_parts xs pes d are division latest floor =
    record {
      some_speed = omega (arith, latest.speed_is, some_speed pes latest.pe are latest.inside);
      divides = division;
      none_late = latest.none_later;
      floor_holds = floor_holds xs pes d.time d.floor floor;
    }

pub chosen_from_parts : {A : Type 0} (xs : List ℕ) (pes : Pes) (d : TimedDivision A) → ArePes pes → IsDivision 0 (length xs) (count pes) d.cuts
    → IsFirstLatest xs pes d.cuts (count pes) d.time → IsGreedyBy xs pes d.time.work d.time.speed (count pes) d.cuts
    → IsLeastFloor xs pes d.time d.floor → IsChosen xs pes d
chosen_from_parts xs pes d are division latest greedy floor =
    record {
      least_time = least_from_certified xs pes d are (certified_from_parts xs pes d are division latest floor);
      first_latest = latest;
      greedy = greedy;
      floor = floor;
    }

-- what is greedy by the time is greedy by the tick
pub greedy_by_ticks : (xs : List ℕ) (pes : Pes) (ticks scale : ℕ) (ends : List ℕ) (t : EndTime) → Ticked pes scale ticks t
    → IsGreedyBy xs pes t.work t.speed (count pes) ends → IsGreedyBy xs pes ticks scale (count pes) ends
greedy_by_ticks xs pes ticks scale ends t h greedy =
    record {
      counted = greedy.counted;
      starts = greedy.starts;
      greedy = λ p inside. record {
        inside = (greedy.greedy p inside).inside;
        ends_by = by_ticks t.work t.speed ticks scale (background_of pes p + load xs (slice_index ends p) (slice_index ends (p + 1)))
            (speed_of pes p) h.in_tick (greedy.greedy p inside).ends_by;
        greatest = λ other within by. (greedy.greedy p inside).greatest other within
            (by_time t.work t.speed ticks scale (background_of pes p + load xs (slice_index ends p) other) (speed_of pes p) h.in_tick
            (some_speed pes p h.are inside) (h.apart p inside).0 by);
      };
    }

-- where a PE that ends at the time or later ends by a tick, the time is by that tick
from_by : (n v ticks scale work speed : ℕ) → 1 ≤ speed → n * speed ≤ work * v → work * scale ≤ ticks * speed → n * scale ≤ ticks * v
from_by n v ticks scale work speed some from by =
    le_of_mul-le-mul_right {m = n * scale} {n = ticks * v} {k = speed} (omega (arith, mul-le-mul_right scale from, mul-le-mul_right v by)) some

-- the time of the chosen division is in the least tick
pub ticked_from_chosen : {A : Type 0} (xs : List ℕ) (pes : Pes) (ticks scale : ℕ) (d : TimedDivision A) → IsScale pes scale → IsLeastTicks xs pes scale ticks
    → IsChosen xs pes d → Ticked pes scale ticks d.time
ticked_from_chosen xs pes ticks scale d is_scale least h =
    let late = floor_late xs pes d.time d.floor least.fits.0 (floor_holds xs pes d.time d.floor h.floor) least.fits.1 in
    record {
      are = is_scale.are;
      in_tick = record {
        some = h.least_time.some_speed;
        some_tick = is_scale.some;
        needed = record {
          by = from_by d.time.work d.time.speed ticks scale (work_of xs pes least.fits.0 late.pe) (speed_of pes late.pe)
              (some_speed pes late.pe is_scale.are late.inside) late.late (least.fits.2 late.pe late.inside);
          least = λ sooner before. elim (cases_lt (sooner * d.time.speed) (d.time.work * scale)) [
            | inl past ↦ past
            | inr by ↦ absurd (least.stops sooner before (
              d.cuts,
              h.least_time.divides,
              λ p inside.
                  by_sooner d.time.work d.time.speed sooner scale (work_of xs pes d.cuts p) (speed_of pes p) h.least_time.some_speed by (h.first_latest.none_later p inside),
            ))
          ];
        };
      };
      apart = λ p inside. rw h.first_latest.speed_is
          (is_scale.apart h.first_latest.pe p h.first_latest.inside inside, is_scale.apart p h.first_latest.pe inside h.first_latest.inside);
    }
