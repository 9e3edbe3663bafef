-- Flaws against certificates.
use Rattle.std.proofs.Common.{◌≡◌, ℕ, ◌+◌, ◌-◌, ◌*◌, ◌<◌, ◌≤◌, ◌↔◌, List, length, slice_index, Result, Ok, Err, IsOk, IsErr, OnOk, IfErr, arith, refl, subst, sym}
use Rattle.std.specs.List.Sorted.{IsNonDecreasing}
use Rattle.lb_certificates.specs.Chain.{IsDivision}
use Rattle.lb_certificates.specs.Flaws.{Falls}
use Rattle.speed_certificates.specs.declared.division.TimedDivision.{TimedDivision}
use Rattle.speed_certificates.specs.declared.division.TimeFloor.{TimeFloor}
use Rattle.speed_certificates.specs.declared.division.TimeFloor.TheVariants.{Idle, Fence}
use Rattle.speed_certificates.specs.declared.flaw.TimeFlaw.{TimeFlaw}
use Rattle.speed_certificates.specs.declared.flaw.TimeFlaw.TheVariants.{NoSpeed, CutCount, CutStart, CutOrder, CutEnd, Late, IdleRange, IdleEarly, FenceCount, FenceStart, FenceOrder, FenceEnd, FenceEarly}
use Rattle.speed_certificates.specs.Speeds.{Pes, count, speed_of, background_of, work_of}
use Rattle.speed_certificates.specs.Certificate.{HoldsFrom, IsTimeCertified, IsTimeFence, IsFirstEarly, IsIdleFrom, MatchFloor, NoneLate, NoneEarly, range_work}
use Rattle.speed_certificates.specs.Flaws.{HasFlaw, IsFirst, flaw_number, flaw_place}

-- two facts about a floor that exclude each other at either kind
floors_apart : {A : Type 0} (floor : TimeFloor A) (idle₁ idle₂ : ℕ → Type 0) (fence₁ fence₂ : List ℕ → Type 0)
    → ((p : ℕ) → idle₁ p → idle₂ p → ⊥) → ((s : List ℕ) → fence₁ s → fence₂ s → ⊥) → MatchFloor floor idle₁ fence₁ → MatchFloor floor idle₂ fence₂ → ⊥
floors_apart (Idle p) idle₁ idle₂ fence₁ fence₂ at_idle at_fence one other = at_idle p one other
floors_apart (Fence s) idle₁ idle₂ fence₁ fence₂ at_idle at_fence one other = at_fence s one other

rises_or_falls : (s : List ℕ) → IsNonDecreasing s → Falls s → ⊥
rises_or_falls s ordered (i, inside, falls) = absurd (omega (arith, falls, ordered i (i + 1) 0 (omega arith) inside))

-- What a claim is looked at for before the flaw of number n. Of the floor each fact is about one kind of floor.
pub record RightBefore {A : Type 0} (xs : List ℕ) (pes : Pes) (d : TimedDivision A) (n : ℕ) : Type 0 where
  pub speed : 1 < n → 1 ≤ d.time.speed
  pub counted : 2 < n → length d.cuts ≡ count pes + 1
  pub starts : 3 < n → slice_index d.cuts 0 ≡ 0
  pub ordered : 4 < n → IsNonDecreasing d.cuts
  pub ends : 5 < n → slice_index d.cuts (count pes) ≡ length xs
  pub none_late : 6 < n → NoneLate xs pes d.time d.cuts (count pes)
  pub idle_inside : 7 < n → MatchFloor d.floor (λ p. p < count pes) (λ _. Unit {0})
  pub idle_from : 8 < n → MatchFloor d.floor (λ p. d.time.work * speed_of pes p ≤ background_of pes p * d.time.speed) (λ _. Unit {0})
  pub stops_counted : 9 < n → MatchFloor d.floor (λ _. Unit {0}) (λ s. length s ≡ count pes + 1)
  pub stops_start : 10 < n → MatchFloor d.floor (λ _. Unit {0}) (λ s. slice_index s 0 ≡ 0)
  pub stops_ordered : 11 < n → MatchFloor d.floor (λ _. Unit {0}) IsNonDecreasing
  pub stops_end : 12 < n → MatchFloor d.floor (λ _. Unit {0}) (λ s. slice_index s (count pes) < length xs)
  pub none_early : 13 < n → MatchFloor d.floor (λ _. Unit {0}) (λ s. NoneEarly xs pes d.time s (count pes))

-- then no flaw of a lower number applies
pub nothing_before : {A : Type 0} (xs : List ℕ) (pes : Pes) (d : TimedDivision A) (n : ℕ) → RightBefore xs pes d n → (other : TimeFlaw)
    → flaw_number other < n → ¬ (HasFlaw xs pes d other)
nothing_before xs pes d n right NoSpeed h flawed = absurd (omega (arith, flawed, right.speed h))
nothing_before xs pes d n right CutCount h flawed = flawed (right.counted h)
nothing_before xs pes d n right CutStart h flawed = flawed (right.starts h)
nothing_before xs pes d n right CutOrder h flawed = rises_or_falls d.cuts (right.ordered h) flawed
nothing_before xs pes d n right CutEnd h flawed = flawed (right.ends h)
nothing_before xs pes d n right (Late p) h (inside, late) = absurd (omega (arith, late, right.none_late h p inside))
nothing_before xs pes d n right IdleRange h flawed =
    floors_apart d.floor _ _ _ _ (λ p inside beyond. absurd (omega (arith, inside, beyond))) (λ s _ no. no) (right.idle_inside h) flawed
nothing_before xs pes d n right IdleEarly h flawed =
    floors_apart d.floor _ _ _ _ (λ p from early. absurd (omega (arith, from, early.1))) (λ s _ no. no) (right.idle_from h) flawed
nothing_before xs pes d n right FenceCount h flawed =
    floors_apart d.floor _ _ _ _ (λ p _ no. no) (λ s counted no. no counted) (right.stops_counted h) flawed
nothing_before xs pes d n right FenceStart h flawed =
    floors_apart d.floor _ _ _ _ (λ p _ no. no) (λ s starts no. no starts) (right.stops_start h) flawed
nothing_before xs pes d n right FenceOrder h flawed =
    floors_apart d.floor _ _ _ _ (λ p _ no. no) rises_or_falls (right.stops_ordered h) flawed
nothing_before xs pes d n right FenceEnd h flawed =
    floors_apart d.floor _ _ _ _ (λ p _ no. no) (λ s inside past. absurd (omega (arith, past, inside))) (right.stops_end h) flawed
nothing_before xs pes d n right (FenceEarly i) h flawed =
    floors_apart d.floor _ _ _ _ (λ p _ no. no) (λ s none early. absurd (omega (arith, early.2, none i early.0 early.1))) (right.none_early h) flawed

-- what is so of a floor at both kinds
of_both : {A : Type 0} (floor : TimeFloor A) (idle₁ idle₂ : ℕ → Type 0) (fence₁ fence₂ : List ℕ → Type 0) → ((p : ℕ) → idle₁ p → idle₂ p)
    → ((s : List ℕ) → fence₁ s → fence₂ s) → MatchFloor floor idle₁ fence₁ → MatchFloor floor idle₂ fence₂
of_both (Idle p) idle₁ idle₂ fence₁ fence₂ at_idle at_fence one = at_idle p one
of_both (Fence s) idle₁ idle₂ fence₁ fence₂ at_idle at_fence one = at_fence s one

-- a certified division has no flaw
pub flawless : {A : Type 0} (xs : List ℕ) (pes : Pes) (d : TimedDivision A) → IsTimeCertified xs pes d → (flaw : TimeFlaw) → ¬ (HasFlaw xs pes d flaw)
flawless xs pes d h flaw = nothing_before xs pes d 14 right flaw (below flaw)
  where
    right : RightBefore xs pes d 14
    right = record {
      speed = λ _. h.some_speed;
      counted = λ _. h.divides.counted;
      starts = λ _. h.divides.starts;
      ordered = λ _. h.divides.ordered;
      ends = λ _. h.divides.ends;
      none_late = λ _. h.none_late;
      idle_inside = λ _. of_both d.floor _ _ _ _ (λ p idle. idle.inside) (λ s _. tt) h.floor_holds;
      idle_from = λ _. of_both d.floor _ _ _ _ (λ p idle. idle.from) (λ s _. tt) h.floor_holds;
      stops_counted = λ _. of_both d.floor _ _ _ _ (λ p _. tt) (λ s fence. fence.counted) h.floor_holds;
      stops_start = λ _. of_both d.floor _ _ _ _ (λ p _. tt) (λ s fence. fence.starts) h.floor_holds;
      stops_ordered = λ _. of_both d.floor _ _ _ _ (λ p _. tt) (λ s fence. fence.ordered) h.floor_holds;
      stops_end = λ _. of_both d.floor _ _ _ _ (λ p _. tt) (λ s fence. fence.ends) h.floor_holds;
      none_early = λ _. of_both d.floor _ _ _ _ (λ p _. tt) (λ s fence. fence.none_early) h.floor_holds;
    }

    below : (flaw : TimeFlaw) → flaw_number flaw < 14
    below NoSpeed = omega arith
    below CutCount = omega arith
    below CutStart = omega arith
    below CutOrder = omega arith
    below CutEnd = omega arith
    below (Late p) = omega arith
    below IdleRange = omega arith
    below IdleEarly = omega arith
    below FenceCount = omega arith
    below FenceStart = omega arith
    below FenceOrder = omega arith
    below FenceEnd = omega arith
    below (FenceEarly i) = omega arith

-- where a claim that holds has no flaw, a refusal that names the first flaw is exact
pub refused_exactly : {T : Type 0} (applies : TimeFlaw → Type 0) (holds : Type 0) (answer : Result T TimeFlaw) (flaw : TimeFlaw)
    → (holds → (other : TimeFlaw) → ¬ (applies other)) → IsErr answer → IsFirst applies flaw → IsOk answer ↔ holds
refused_exactly applies holds (Ok _) flaw flawless_where refused first = absurd cc
refused_exactly applies holds (Err _) flaw flawless_where refused first =
    (λ accepted. absurd cc, λ held. absurd (flawless_where held flaw first.applies_itself))

-- an answer about the floor, where cuts and blocks are right: one that accepts is for a certified division
pub certified_where_ok : {A T : Type 0} (xs : List ℕ) (pes : Pes) (d : TimedDivision A) (answer : Result T TimeFlaw) → 1 ≤ d.time.speed
    → IsDivision 0 (length xs) (count pes) d.cuts → NoneLate xs pes d.time d.cuts (count pes) → OnOk answer (HoldsFrom xs pes d.time d.floor)
    → IsOk answer → IsTimeCertified xs pes d
certified_where_ok xs pes d (Ok _) speed division none floor accepted =
    record { some_speed = speed; divides = division; none_late = none; floor_holds = floor }
certified_where_ok xs pes d (Err _) speed division none floor accepted = absurd cc

-- a certified division gets no answer that names a flaw
pub ok_where_certified : {A T : Type 0} (xs : List ℕ) (pes : Pes) (d : TimedDivision A) (answer : Result T TimeFlaw) → IfErr answer (IsFirst (HasFlaw xs pes d)) → IsTimeCertified xs pes d → IsOk answer
ok_where_certified xs pes d (Ok _) first timely = refl
ok_where_certified xs pes d (Err flaw) first timely = absurd (flawless xs pes d timely flaw first.applies_itself)

-- what holds of any floor of a kind
pub of_fence : {A : Type 0} (floor : TimeFloor A) (s : List ℕ) (at_idle : ℕ → Type 0) (at_fence : List ℕ → Type 0) → floor ≡ Fence s → at_fence s → MatchFloor floor at_idle at_fence
of_fence floor s at_idle at_fence e m = subst (λ f. MatchFloor f at_idle at_fence) (sym e) m

pub of_idle : {A : Type 0} (floor : TimeFloor A) (p : ℕ) (at_idle : ℕ → Type 0) (at_fence : List ℕ → Type 0) → floor ≡ Idle p → at_idle p → MatchFloor floor at_idle at_fence
of_idle floor p at_idle at_fence e m = subst (λ f. MatchFloor f at_idle at_fence) (sym e) m

-- a flaw that names no place is the first where there is none of a lower number
pub first_by_number : {A : Type 0} (xs : List ℕ) (pes : Pes) (d : TimedDivision A) (flaw : TimeFlaw) → flaw_place flaw ≡ 0
    → HasFlaw xs pes d flaw → RightBefore xs pes d (flaw_number flaw) → IsFirst (HasFlaw xs pes d) flaw
first_by_number xs pes d flaw e flawed right =
    record {
      applies_itself = flawed;
      no_lower_number = nothing_before xs pes d (flaw_number flaw) right;
      no_lower_place = λ other same earlier found. absurd (omega (arith, e, earlier));
    }

-- what was looked at, where the cuts are right
pub right_cuts : {A : Type 0} (xs : List ℕ) (pes : Pes) (d : TimedDivision A) (n : ℕ) → n ≤ 6 → (1 < n → 1 ≤ d.time.speed)
    → (2 < n → length d.cuts ≡ count pes + 1) → (3 < n → slice_index d.cuts 0 ≡ 0) → (4 < n → IsNonDecreasing d.cuts)
    → (5 < n → slice_index d.cuts (count pes) ≡ length xs) → RightBefore xs pes d n
right_cuts xs pes d n few speed counted starts ordered ends =
    record {
      speed = speed;
      counted = counted;
      starts = starts;
      ordered = ordered;
      ends = ends;
      none_late = λ h. absurd (omega arith);
      idle_inside = λ h. absurd (omega arith);
      idle_from = λ h. absurd (omega arith);
      stops_counted = λ h. absurd (omega arith);
      stops_start = λ h. absurd (omega arith);
      stops_ordered = λ h. absurd (omega arith);
      stops_end = λ h. absurd (omega arith);
      none_early = λ h. absurd (omega arith);
    }

-- and where the blocks are, and so far the floor that names a PE
pub right_idle : {A : Type 0} (xs : List ℕ) (pes : Pes) (d : TimedDivision A) (p n : ℕ) → n ≤ 8 → 1 ≤ d.time.speed
    → IsDivision 0 (length xs) (count pes) d.cuts → NoneLate xs pes d.time d.cuts (count pes) → d.floor ≡ Idle p
    → (7 < n → p < count pes) → RightBefore xs pes d n
right_idle xs pes d p n few speed division none e inside =
    record {
      speed = λ _. speed;
      counted = λ _. division.counted;
      starts = λ _. division.starts;
      ordered = λ _. division.ordered;
      ends = λ _. division.ends;
      none_late = λ _. none;
      idle_inside = λ h. of_idle d.floor p _ _ e (inside h);
      idle_from = λ h. absurd (omega arith);
      stops_counted = λ h. absurd (omega arith);
      stops_start = λ h. absurd (omega arith);
      stops_ordered = λ h. absurd (omega arith);
      stops_end = λ h. absurd (omega arith);
      none_early = λ h. absurd (omega arith);
    }

-- and so far the fence
pub right_fence : {A : Type 0} (xs : List ℕ) (pes : Pes) (d : TimedDivision A) (s : List ℕ) (n : ℕ) → n ≤ 13 → 1 ≤ d.time.speed
    → IsDivision 0 (length xs) (count pes) d.cuts → NoneLate xs pes d.time d.cuts (count pes) → d.floor ≡ Fence s
    → (9 < n → length s ≡ count pes + 1) → (10 < n → slice_index s 0 ≡ 0) → (11 < n → IsNonDecreasing s)
    → (12 < n → slice_index s (count pes) < length xs) → RightBefore xs pes d n
right_fence xs pes d s n few speed division none e counted starts ordered ends =
    record {
      speed = λ _. speed;
      counted = λ _. division.counted;
      starts = λ _. division.starts;
      ordered = λ _. division.ordered;
      ends = λ _. division.ends;
      none_late = λ _. none;
      idle_inside = λ h. of_fence d.floor s _ _ e tt;
      idle_from = λ h. of_fence d.floor s _ _ e tt;
      stops_counted = λ h. of_fence d.floor s _ _ e (counted h);
      stops_start = λ h. of_fence d.floor s _ _ e (starts h);
      stops_ordered = λ h. of_fence d.floor s _ _ e (ordered h);
      stops_end = λ h. of_fence d.floor s _ _ e (ends h);
      none_early = λ h. absurd (omega arith);
    }

-- a PE that ends after the time is the first flaw, where the cuts and the blocks before it are right
pub late_is_first : {A : Type 0} (xs : List ℕ) (pes : Pes) (d : TimedDivision A) (p : ℕ) → 1 ≤ d.time.speed → IsDivision 0 (length xs) (count pes) d.cuts
    → NoneLate xs pes d.time d.cuts p → p < count pes → d.time.work * speed_of pes p < work_of xs pes d.cuts p * d.time.speed
    → IsFirst (HasFlaw xs pes d) (Late p)
late_is_first {A} xs pes d p speed division before inside late =
    record {
      applies_itself = (inside, late);
      no_lower_number = nothing_before xs pes d 6 (right_cuts xs pes d 6 (omega arith) (λ _. speed) (λ _. division.counted)
          (λ _. division.starts) (λ _. division.ordered) (λ _. division.ends));
      no_lower_place = earlier;
    }
  where
    earlier : (other : TimeFlaw) → flaw_number other ≡ 6 → flaw_place other < p → ¬ (HasFlaw xs pes d other)
    earlier (Late k) same lower flawed = absurd (omega (arith, flawed.1, before k lower))
    earlier _ same lower flawed = absurd (omega arith)

-- a range with which its PE ends before the time, where all that is looked at before it is right
pub early_is_first : {A : Type 0} (xs : List ℕ) (pes : Pes) (d : TimedDivision A) (s : List ℕ) (i : ℕ) → 1 ≤ d.time.speed
    → IsDivision 0 (length xs) (count pes) d.cuts → NoneLate xs pes d.time d.cuts (count pes) → d.floor ≡ Fence s → length s ≡ count pes + 1
    → slice_index s 0 ≡ 0 → IsNonDecreasing s → slice_index s (count pes) < length xs → IsFirstEarly xs pes d.time s (count pes) i
    → IsFirst (HasFlaw xs pes d) (FenceEarly i)
early_is_first {A} xs pes d s i speed division none e counted starts ordered ends first =
    record {
      applies_itself = of_fence d.floor s _ _ e (first.positive, first.inside, first.early);
      no_lower_number = nothing_before xs pes d 13 (right_fence xs pes d s 13 (omega arith) speed division none e (λ _. counted)
          (λ _. starts) (λ _. ordered) (λ _. ends));
      no_lower_place = earlier;
    }
  where
    earlier : (other : TimeFlaw) → flaw_number other ≡ 13 → flaw_place other < i → ¬ (HasFlaw xs pes d other)
    earlier (FenceEarly j) same lower flawed =
        let early = subst (λ f. MatchFloor f (λ _. ⊥) (λ s. (0 < j) × (j ≤ count pes) × (range_work xs pes s j * d.time.speed < d.time.work * speed_of pes (j - 1)))) e flawed in
        absurd (omega (arith, early.2, first.earlier j early.0 (omega arith)))
    earlier _ same lower flawed = absurd (omega arith)

-- a fence of which nothing is wrong holds
pub fence_holds : {A : Type 0} (xs : List ℕ) (pes : Pes) (d : TimedDivision A) (s : List ℕ) → d.floor ≡ Fence s → length s ≡ count pes + 1
    → slice_index s 0 ≡ 0 → IsNonDecreasing s → slice_index s (count pes) < length xs → NoneEarly xs pes d.time s (count pes)
    → HoldsFrom xs pes d.time d.floor
fence_holds xs pes d s e counted starts ordered ends none =
    of_fence d.floor s (IsIdleFrom pes d.time) (IsTimeFence xs pes d.time) e
    (record { counted = counted; starts = starts; ordered = ordered; ends = ends; none_early = none })
