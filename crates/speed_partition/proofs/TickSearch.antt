-- The least number of ticks by which all PEs can end.
use Rattle.std.proofs.Common.{◌≡◌, ℕ, suc, zero, ◌+◌, ◌*◌, ◌/◌, ◌%◌, ◌^◌, ◌<◌, ◌≤◌, inl, inr, List, max, min, length, slice_index, sum, take, add-one, ap, arith, subst}
use Rattle.std.proofs.lemmas.Bool.{cases_lt, cases_eq}
use Rattle.std.proofs.lemmas.Nat.{mul-le}
use Rattle.std.proofs.Math.Nat.{mul-le-mul_right, le-mul_of_pos_right}
use Rattle.lb_snapshot.specs.Measured.{load}
use Rattle.std.proofs.lemmas.Grind.{div_ceil_times}
use Rattle.std.proofs.lemmas.List.Sums.{sum_by_more}
use Rattle.lb_certificates.proofs.Chains.{load_wider}
use Rattle.chain_partition.proofs.Limits.{share_inside as limit_inside}
use Rattle.chain_partition.proofs.Ranges.{load_nothing}
use Rattle.chain_partition.proofs.RunningSums.{load_split}
use Rattle.speed_certificates.specs.declared.limits.TheConstants.SpeedLimits.{BACKGROUND}
use Rattle.speed_certificates.specs.Speeds.{Pes, ArePes, count, speed_of, background_of}
use Rattle.speed_certificates.proofs.LeastTimes.{some_speed}
use Rattle.speed_partition.specs.Greedy.{CanEnd, AllIdleBy}
use Rattle.speed_partition.specs.Search.{StopBefore, Enclose, IsLeastTicks}
use Rattle.speed_certificates.proofs.LateSomewhere.{AreLate}
use Rattle.speed_partition.proofs.GreedyTimes.{IsPast, EndsAt, some_ends, greedy_full, greedy_inside, greedy_ordered, greedy_past}

-- where by no time before one all PEs can end, and by another they can, the other is no earlier
pub bounds_ordered : (xs : List ℕ) (pes : Pes) (scale low high : ℕ) → StopBefore xs pes scale low → CanEnd xs pes high scale → low ≤ high
bounds_ordered xs pes scale low high stops fits =
    elim (cases_lt high low) [
      | inl below ↦ absurd (stops high below fits)
      | inr ordered ↦ ordered
    ]

pub least_from_met : (xs : List ℕ) (pes : Pes) (scale low high : ℕ) → Enclose xs pes scale low high → low ≡ high → IsLeastTicks xs pes scale high
least_from_met xs pes scale low high h met =
    record { fits = h.fits; stops = subst (λ k. StopBefore xs pes scale k) met h.stops }

-- no background is above the limit
background_small : (pes : Pes) (p : ℕ) → ArePes pes → p < count pes → background_of pes p ≤ BACKGROUND
background_small pes p are inside = are.background p 0 (omega (arith, are.paired))

-- at any speed work ends by as many ticks as units, times the ticks of a unit
slowest : (work units scale speed : ℕ) → work ≤ units → 1 ≤ speed → work * scale ≤ units * scale * speed
slowest work units scale speed small some =
    omega (arith, mul-le-mul_right scale small, le-mul_of_pos_right (units * scale) some)

-- with empty blocks all PEs end by then
idle_high : (pes : Pes) (scale total : ℕ) → ArePes pes → AllIdleBy pes ((BACKGROUND + total) * scale) scale
idle_high pes scale total are p inside =
    slowest (background_of pes p) (BACKGROUND + total) scale (speed_of pes p) (omega (arith, background_small pes p are inside)) (some_speed pes p are inside)

-- greedy blocks by then do not leave elements
high_late : (xs : List ℕ) (pes : Pes) (scale : ℕ) (ends : List ℕ) → ArePes pes
    → AreLate (IsPast pes ((BACKGROUND + load xs 0 (length xs)) * scale) scale) xs pes ends → slice_index ends 1 < length xs → ⊥
high_late xs pes scale ends are late inside =
    let wide : load xs (slice_index ends 0) (slice_index ends 1 + 1) ≤ load xs 0 (length xs) = load_wider xs _ _ _ _ (omega arith)
    (omega (arith, late.onward 0 are.some_pe)) (omega (arith, inside)) in
    let by = slowest (background_of pes 0 + load xs (slice_index ends 0) (slice_index ends 1 + 1)) (BACKGROUND + load xs 0 (length xs)) scale
    (speed_of pes 0) (omega (arith, wide, background_small pes 0 are are.some_pe)) (some_speed pes 0 are are.some_pe) in
    absurd (omega (arith, late.late 0 are.some_pe, by))

-- By the time that a PE of speed 1 would need for all elements and the greatest background, all PEs can end.
pub all_on_one : (xs : List ℕ) (pes : Pes) (scale : ℕ) → ArePes pes → CanEnd xs pes ((BACKGROUND + load xs 0 (length xs)) * scale) scale
all_on_one xs pes scale are =
    elim (cases_eq (slice_index ends.1.ends (count pes)) (length xs)) [
      | inl full ↦ greedy_full xs pes high scale ends.1.ends ends.1.greedy full
      | inr short ↦
          let some_left : slice_index ends.1.ends (count pes) < length xs = omega
          (arith, short, greedy_inside xs pes high scale (count pes) ends.1.ends ends.1.greedy (count pes) (omega arith)) in
          let below : slice_index ends.1.ends 1 ≤ slice_index ends.1.ends (count pes) = greedy_ordered xs pes high scale (count pes)
          ends.1.ends ends.1.greedy 1 (count pes) 0 are.some_pe (omega (arith, ends.1.greedy.counted)) in
          absurd (high_late xs pes scale ends.1.ends are (greedy_past xs pes high scale ends.1.ends ends.1.greedy some_left)
          (omega (arith, below, some_left)))
    ]
  where
    high : ℕ
    high = (BACKGROUND + load xs 0 (length xs)) * scale

    ends : (end : ℕ) × EndsAt xs pes ((BACKGROUND + load xs 0 (length xs)) * scale) scale (count pes) end
    ends = some_ends xs pes ((BACKGROUND + load xs 0 (length xs)) * scale) scale (count pes) (idle_high pes scale (load xs 0 (length xs)) are) (omega arith)

-- up to each PE, so many ticks of all these speeds are enough for the work before it
share_before : (xs : List ℕ) (pes : Pes) (ticks scale : ℕ) (fit : CanEnd xs pes ticks scale) → ArePes pes → (k : ℕ) → k ≤ count pes
    → (load xs 0 (slice_index fit.0 k) + sum (take k pes.background)) * scale ≤ ticks * sum (take k pes.speeds)
share_before xs pes ticks scale fit are zero inside =
    omega (arith, ap (λ n. load xs 0 n * scale) fit.1.starts, ap (λ n. n * scale) (load_nothing xs 0))
share_before xs pes ticks scale fit are (suc k) inside =
    let before = share_before xs pes ticks scale fit are k (omega arith) in
    let rises : slice_index fit.0 k ≤ slice_index fit.0 (k + 1) = fit.1.ordered k (k + 1) 0 (omega arith) (omega (arith, fit.1.counted)) in
    let whole : load xs 0 (slice_index fit.0 k) + load xs (slice_index fit.0 k) (slice_index fit.0 (k + 1)) ≡ load xs 0 (slice_index fit.0 (k + 1)) =
    load_split xs (slice_index fit.0 k) (slice_index fit.0 (k + 1)) rises in
    let units : sum (take (k + 1) pes.background) ≡ sum (take k pes.background) + background_of pes k = sum_by_more (λ x. x) pes.background k 0 (omega (arith, are.paired)) in
    let speed : sum (take (k + 1) pes.speeds) ≡ sum (take k pes.speeds) + speed_of pes k = sum_by_more (λ x. x) pes.speeds k 0 (omega arith) in
    let own : (background_of pes k + load xs (slice_index fit.0 k) (slice_index fit.0 (k + 1))) * scale ≤ ticks * speed_of pes k = fit.2 k (omega arith) in
    rw (← add-one k) (omega (arith, before, own, ap (λ n. n * scale) whole, ap (λ n. n * scale) units, ap (λ n. ticks * n) speed))

-- before an even share of all work not all PEs can end
pub share_stops : (xs : List ℕ) (pes : Pes) (scale work speed share : ℕ) → ArePes pes → work ≡ load xs 0 (length xs) + sum (take (count pes) pes.background)
    → speed ≡ sum (take (count pes) pes.speeds) → ((sooner : ℕ) → sooner < share → sooner * speed < work * scale) → StopBefore xs pes scale share
share_stops xs pes scale work speed share are work_is speed_is least ticks before fit =
    let by : work * scale ≤ ticks * speed = rw (work_is, speed_is) (subst
    (λ n. (load xs 0 n + sum (take (count pes) pes.background)) * scale ≤ ticks * sum (take (count pes) pes.speeds)) fit.1.ends
    (share_before xs pes ticks scale fit are (count pes) (omega arith))) in
    absurd (omega (arith, by, least ticks before))

-- what is not yet enough for the ceiling of a quotient
pub below_ceiling : (total speed : ℕ) → 1 ≤ speed → (sooner : ℕ) → sooner < total / speed + min 1 (total % speed) → sooner * speed < total
below_ceiling total speed some sooner before =
    elim (cases_lt (sooner * speed) total) [
      | inl short ↦ short
      | inr enough ↦ absurd (omega (arith, enough, (div_ceil_times total speed some).1, mul-le-mul_right speed before))
    ]

-- the time of one worker is within its share
pub tried_inside : (span worker workers : ℕ) → 0 < span → worker < workers → span * (worker + 1) / (workers + 1) < span
tried_inside span worker workers positive inside = limit_inside span worker workers positive inside

pub tried_small : (span worker : ℕ) → span ≤ 2 ^ 107 → worker < 64 → span * (worker + 1) < 2 ^ 128
tried_small span worker small few =
    omega (arith, mul-le span (worker + 1) (2 ^ 107) 64 small (omega arith))

-- what a walk shows narrows the times
pub lesser_fits : (xs : List ℕ) (pes : Pes) (scale a b : ℕ) → CanEnd xs pes a scale → CanEnd xs pes b scale → CanEnd xs pes (min a b) scale
lesser_fits xs pes scale a b h k =
    elim (cases_lt a b) [
      | inl below ↦
          let e : a ≡ min a b = omega arith in
          subst (λ n. CanEnd xs pes n scale) e h
      | inr above ↦
          let e : b ≡ min a b = omega arith in
          subst (λ n. CanEnd xs pes n scale) e k
    ]

pub greater_stops : (xs : List ℕ) (pes : Pes) (scale a b : ℕ) → StopBefore xs pes scale a → StopBefore xs pes scale b → StopBefore xs pes scale (max a b)
greater_stops xs pes scale a b h k ticks before =
    elim (cases_lt ticks a) [
      | inl here ↦ h ticks here
      | inr behind ↦ k ticks (omega arith)
    ]
