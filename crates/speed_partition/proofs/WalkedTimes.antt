-- What the walk of greedy blocks within one time shows of other times.
use Rattle.std.proofs.Common.{◌≡◌, ◌⊎◌, ℕ, suc, zero, ◌+◌, ◌-◌, ◌*◌, ◌<◌, ◌≤◌, max, inl, inr, List, ◌∷◌, [], ◌++◌, length, slice_index, arith, subst, sym, ◌∙◌}
use Rattle.std.proofs.lemmas.Bool.{cases_lt}
use Rattle.std.proofs.lemmas.List.{get_or_append_left}
use Rattle.std.proofs.Math.Nat.{mul-le-mul_left, mul-le-mul_right, le_of_mul-le-mul_right}
use Rattle.lb_snapshot.specs.Measured.{load}
use Rattle.chain_partition.proofs.Ranges.{load_nothing}
use Rattle.speed_certificates.specs.declared.time.EndTime.{EndTime}
use Rattle.speed_certificates.specs.Speeds.{Pes, ArePes, count, speed_of, background_of, EndsBy, EndsFrom, IsNoLater}
use Rattle.speed_certificates.proofs.LateSomewhere.{AreLate}
use Rattle.speed_certificates.proofs.LeastTimes.{some_speed}
use Rattle.speed_partition.specs.Greedy.{AllIdleBy, CanEnd, IsGreatestEndBy}
use Rattle.speed_partition.specs.Search.{StopBefore}
use Rattle.speed_partition.specs.Ticks.{IsNeeded}
use Rattle.speed_partition.proofs.GreedyTimes.{IsPast, EndsAt, ends_none, ends_more, greedy_push_last, greedy_onward, greedy_divides, past_stops}
use Rattle.speed_partition.proofs.TickTimes.{by_sooner}

-- work that ends at a time or later ends at an earlier time or later
no_earlier : (n v m w work speed : ℕ) → 1 ≤ w → n * w ≤ m * v → m * speed ≤ work * w → n * speed ≤ work * v
no_earlier n v m w work speed some sooner from =
    le_of_mul-le-mul_right {m = n * speed} {n = work * v} {k = w} (omega (arith, mul-le-mul_right speed sooner, mul-le-mul_right v from)) some

-- where work takes some time, that time has a speed
speed_from : (n speed work v : ℕ) → 1 ≤ n → 1 ≤ speed → n * speed ≤ work * v → 1 ≤ v
speed_from n speed work v some some_speed from =
    elim (cases_lt 0 v) [
      | inl positive ↦ positive
      | inr none ↦ absurd (omega (arith, some, from, mul-le-mul_left work none, mul-le-mul_left n some_speed))
    ]

some_work : (work scale ticks speed : ℕ) → ticks * speed < work * scale → 1 ≤ work
some_work work scale ticks speed past =
    elim (cases_lt 0 work) [
      | inl positive ↦ positive
      | inr none ↦ absurd (omega (arith, past, mul-le-mul_right scale none))
    ]

-- a time by which a PE ends needs no more than as many ticks
pub needed_within : (work speed scale needed ticks : ℕ) → IsNeeded work speed scale needed → work * scale ≤ ticks * speed → needed ≤ ticks
needed_within work speed scale needed ticks h by =
    elim (cases_lt ticks needed) [
      | inl sooner ↦ absurd (omega (arith, by, h.least ticks sooner))
      | inr within ↦ within
    ]

-- a time past a tick needs more
needed_past : (work speed scale needed ticks : ℕ) → IsNeeded work speed scale needed → ticks * speed < work * scale → ticks < needed
needed_past work speed scale needed ticks h past =
    elim (cases_lt ticks needed) [
      | inl sooner ↦ sooner
      | inr within ↦ absurd (omega (arith, past, h.by, mul-le-mul_right speed within))
    ]

-- the element behind a block does not fit into it
one_more_past : (xs : List ℕ) (pes : Pes) (n v p first end : ℕ) → IsGreatestEndBy xs pes n v p first end → end < length xs
    → IsPast pes n v p (background_of pes p + load xs first (end + 1))
one_more_past xs pes n v p first end h inside =
    elim (cases_lt (n * speed_of pes p) ((background_of pes p + load xs first (end + 1)) * v)) [
      | inl past ↦ past
      | inr by ↦ absurd (omega (arith, h.greatest (end + 1) (omega arith) by))
    ]

-- the later of two times, and the earlier
pub record IsLaterOf (one other found : EndTime) : Type 0 where
  pub either : (found ≡ one) ⊎ (found ≡ other)
  pub from_one : IsNoLater one found
  pub from_other : IsNoLater other found

pub record IsEarlierOf (one other found : EndTime) : Type 0 where
  pub either : (found ≡ one) ⊎ (found ≡ other)
  pub to_one : IsNoLater found one
  pub to_other : IsNoLater found other

-- what holds of both times holds of the one that was found
pub of_either : (P : EndTime → Type 0) (one other found : EndTime) → (found ≡ one) ⊎ (found ≡ other) → P one → P other → P found
of_either P one other found (inl e) h k = subst P (sym e) h
of_either P one other found (inr e) h k = subst P (sym e) k

-- The end of k greedy blocks, and a time by which their PEs end, from the time of the walk on.
pub record EndBy (xs : List ℕ) (pes : Pes) (k ticks scale end : ℕ) (latest : EndTime) : Type 0 where
  pub walk : EndsAt xs pes ticks scale k end
  pub some : 1 ≤ latest.speed
  pub within : latest.work * scale ≤ ticks * latest.speed
  pub none_later : (p : ℕ) → p < k → EndsBy pes latest.work latest.speed p (background_of pes p + load xs (slice_index walk.ends p) (slice_index walk.ends (p + 1)))

-- And a time after it, before which none of these PEs would end with one more element.
pub record Walked (xs : List ℕ) (pes : Pes) (k ticks scale end : ℕ) (latest next : EndTime) : Type 0 where
  pub ends : EndBy xs pes k ticks scale end latest
  pub some_next : 1 ≤ next.work
  pub past : ticks * next.speed < next.work * scale
  pub more : (p : ℕ) → p < k → EndsFrom pes next.work next.speed p (background_of pes p + load xs (slice_index ends.walk.ends p) (slice_index ends.walk.ends (p + 1) + 1))

pub walk_none : (xs : List ℕ) (pes : Pes) (ticks scale : ℕ) → 1 ≤ scale → Walked xs pes 0 ticks scale 0 (record { work = 0; speed = 1 }) (record { work = 1; speed = 0 })
walk_none xs pes ticks scale some =
    record {
      ends = record {
        walk = ends_none xs pes ticks scale;
        some = omega arith;
        within = omega arith;
        none_later = λ p inside. absurd (omega arith);
      };
      some_next = omega arith;
      past = omega (arith, some);
      more = λ p inside. absurd (omega arith);
    }

-- what holds of each block so far and of one more holds of all of them
pub each_block : (P : ℕ → ℕ → ℕ → Type 0) (xs : List ℕ) (pes : Pes) (n v k end next : ℕ) (h : EndsAt xs pes n v k end)
    → ((p : ℕ) → p < k → P p (slice_index h.ends p) (slice_index h.ends (p + 1))) → P k end next → (p : ℕ) → p < k + 1
    → P p (slice_index (h.ends ++ next ∷ []) p) (slice_index (h.ends ++ next ∷ []) (p + 1))
each_block P xs pes n v k end next h so_far last p inside =
    elim (cases_lt p k) [
      | inl before ↦ rw (read p (omega arith), read (p + 1) (omega arith)) (so_far p before)
      | inr latest ↦
          let same : k ≡ p = omega arith in
          subst (λ q. P q (slice_index (h.ends ++ next ∷ []) q) (slice_index (h.ends ++ next ∷ []) (q + 1))) same
          (rw (read k (omega arith), greedy_push_last xs pes n v k h.ends next h.greedy, h.last) last)
    ]
  where
    read : (q : ℕ) → q ≤ k → slice_index (h.ends ++ next ∷ []) q ≡ slice_index h.ends q
    read q within = get_or_append_left h.ends (next ∷ []) 0 q (omega (arith, h.greedy.counted))

-- one more block
abbrev pub end_more : (xs : List ℕ) (pes : Pes) (k ticks scale first end work : ℕ) (latest later : EndTime) → EndBy xs pes k ticks scale first latest
    → 1 ≤ speed_of pes k → IsGreatestEndBy xs pes ticks scale k first end → work ≡ background_of pes k + load xs first end
    → IsLaterOf latest (record { work = work; speed = speed_of pes k }) later → EndBy xs pes (k + 1) ticks scale end later
end_more xs pes k ticks scale first end work latest later h some step work_is found =
    record {
      walk = ends_more xs pes ticks scale k first end h.walk step;
      some = of_either (λ t. 1 ≤ t.speed) latest _ later found.either h.some some;
      within = of_either (λ t. t.work * scale ≤ ticks * t.speed) latest _ later found.either h.within (rw work_is step.ends_by);
      none_later = each_block (λ p a b. EndsBy pes later.work later.speed p (background_of pes p + load xs a b)) xs pes ticks scale k first end h.walk
          (λ p before. later_by p (background_of pes p + load xs (slice_index h.walk.ends p) (slice_index h.walk.ends (p + 1))) (h.none_later p before))
          (subst (λ w. EndsBy pes later.work later.speed k w) work_is found.from_other);
    }
  where
    later_by : (p w : ℕ) → EndsBy pes latest.work latest.speed p w → EndsBy pes later.work later.speed p w
    later_by p w by = le_of_mul-le-mul_right {m = w * later.speed} {n = later.work * speed_of pes p} {k = latest.speed}
        (omega (arith, mul-le-mul_right later.speed by, mul-le-mul_right (speed_of pes p) found.from_one)) h.some

-- and one that ends before the last element
pub walk_more : (xs : List ℕ) (pes : Pes) (k ticks scale first end work more : ℕ) (latest later next earlier : EndTime) → ArePes pes → k < count pes
    → Walked xs pes k ticks scale first latest next → IsGreatestEndBy xs pes ticks scale k first end → end < length xs
    → work ≡ background_of pes k + load xs first end → IsLaterOf latest (record { work = work; speed = speed_of pes k }) later
    → more ≡ background_of pes k + load xs first (end + 1) → IsEarlierOf next (record { work = more; speed = speed_of pes k }) earlier
    → Walked xs pes (k + 1) ticks scale end later earlier
walk_more xs pes k ticks scale first end work more latest later next earlier are inside h step short work_is found_later more_is found =
    record {
      ends = end_more xs pes k ticks scale first end work latest later h.ends (some_speed pes k are inside) step work_is found_later;
      some_next = of_either (λ t. 1 ≤ t.work) next _ earlier found.either h.some_next (some_work more scale ticks (speed_of pes k) one_past);
      past = of_either (λ t. ticks * t.speed < t.work * scale) next _ earlier found.either h.past one_past;
      more = each_block (λ p a b. EndsFrom pes earlier.work earlier.speed p (background_of pes p + load xs a (b + 1))) xs pes ticks scale k first end h.ends.walk
          (λ p before. earlier_from p (background_of pes p + load xs (slice_index h.ends.walk.ends p) (slice_index h.ends.walk.ends (p + 1) + 1)) (omega arith) (h.more p before))
          (subst (λ w. EndsFrom pes earlier.work earlier.speed k w) more_is found.to_other);
    }
  where
    one_past : ticks * speed_of pes k < more * scale
    one_past = rw more_is (one_more_past xs pes ticks scale k first end step short)

    earlier_from : (p w : ℕ) → p < count pes → EndsFrom pes next.work next.speed p w → EndsFrom pes earlier.work earlier.speed p w
    earlier_from p w within from =
        no_earlier earlier.work earlier.speed next.work next.speed w (speed_of pes p)
        (speed_from next.work (speed_of pes p) w next.speed h.some_next (some_speed pes p are within) from) found.to_one from

-- blocks of no elements for the PEs that are left
fill : (xs : List ℕ) (pes : Pes) (ticks scale time k j end : ℕ) → AllIdleBy pes ticks scale → AllIdleBy pes time scale → k + j ≡ count pes → end ≡ length xs
    → (walk : EndsAt xs pes ticks scale k end)
    → ((p : ℕ) → p < k → EndsBy pes time scale p (background_of pes p + load xs (slice_index walk.ends p) (slice_index walk.ends (p + 1)))) → CanEnd xs pes time scale
fill xs pes ticks scale time k zero end idle idle_time all full walk by =
    let same : k ≡ count pes = omega arith in
    filled (subst (λ c. (walk : EndsAt xs pes ticks scale c end) × ((p : ℕ) → p < c
    → EndsBy pes time scale p (background_of pes p + load xs (slice_index walk.ends p) (slice_index walk.ends (p + 1))))) same (walk, by))
  where
    filled : (walk : EndsAt xs pes ticks scale (count pes) end) × ((p : ℕ) → p < count pes
        → EndsBy pes time scale p (background_of pes p + load xs (slice_index walk.ends p) (slice_index walk.ends (p + 1)))) → CanEnd xs pes time scale
    filled w = (w.0.ends, greedy_divides xs pes ticks scale w.0.ends w.0.greedy (w.0.last ∙ full), w.1)
fill xs pes ticks scale time k (suc j) end idle idle_time all full walk by =
    let none : load xs end end ≡ 0 = load_nothing xs end in
    let step : IsGreatestEndBy xs pes ticks scale k end end = record {
      inside = omega (arith, full);
      ends_by = rw none (omega (arith, idle k (omega arith)));
      greatest = λ other inside _. omega (arith, inside, full);
    } in
    fill xs pes ticks scale time (k + 1) j end idle idle_time (omega arith) full (ends_more xs pes ticks scale k end end walk step)
    (each_block (λ p a b. EndsBy pes time scale p (background_of pes p + load xs a b)) xs pes ticks scale k end end walk by
    (rw none (omega (arith, idle_time k (omega arith)))))

-- background that ends by a time ends by a later one
pub idle_later : (pes : Pes) (idle ticks scale : ℕ) → idle ≤ ticks → AllIdleBy pes idle scale → AllIdleBy pes ticks scale
idle_later pes idle ticks scale later h p inside = omega (arith, h p inside, mul-le-mul_right (speed_of pes p) later)

-- a walk that places all elements
pub walk_fits : (xs : List ℕ) (pes : Pes) (k ticks scale idle needed end : ℕ) (latest : EndTime) → EndBy xs pes k ticks scale end latest → end ≡ length xs → k ≤ count pes
    → AllIdleBy pes idle scale → idle ≤ ticks → IsNeeded latest.work latest.speed scale needed → (max needed idle ≤ ticks) × CanEnd xs pes (max needed idle) scale
walk_fits xs pes k ticks scale idle needed end latest h all inside idle_by_then from is_needed = (
  omega (arith, from, needed_within latest.work latest.speed scale needed ticks is_needed h.within),
  fill xs pes ticks scale (max needed idle) k (count pes - k) end (idle_later pes idle ticks scale from idle_by_then)
      (idle_later pes idle (max needed idle) scale (omega arith) idle_by_then) (omega arith) all h.walk by_then,
)
  where
    enough : latest.work * scale ≤ max needed idle * latest.speed
    enough =
        let more : needed ≤ max needed idle = omega arith in
        omega (arith, is_needed.by, mul-le-mul_right latest.speed more)

    by_then : (p : ℕ) → p < k → EndsBy pes (max needed idle) scale p (background_of pes p + load xs (slice_index h.walk.ends p) (slice_index h.walk.ends (p + 1)))
    by_then p before = by_sooner latest.work latest.speed (max needed idle) scale (background_of pes p + load xs (slice_index h.walk.ends p) (slice_index h.walk.ends (p + 1)))
        (speed_of pes p) h.some enough (h.none_later p before)

-- a walk that does not
pub walk_stops : (xs : List ℕ) (pes : Pes) (ticks scale needed end : ℕ) (latest next : EndTime) → ArePes pes → Walked xs pes (count pes) ticks scale end latest next
    → end < length xs → IsNeeded next.work next.speed scale needed → (ticks < needed) × StopBefore xs pes scale needed
walk_stops xs pes ticks scale needed end latest next are h short is_needed =
    (needed_past next.work next.speed scale needed ticks is_needed h.past, λ sooner before. past_stops xs pes sooner scale h.ends.walk.ends (late sooner before))
  where
    ends_short : slice_index h.ends.walk.ends (count pes) < length xs
    ends_short = omega (arith, short, h.ends.walk.last)

    past : (p work sooner : ℕ) → p < count pes → sooner < needed → EndsFrom pes next.work next.speed p work → IsPast pes sooner scale p work
    past p work sooner inside before from = elim (cases_lt (sooner * speed_of pes p) (work * scale)) [
      | inl behind ↦ behind
      | inr by ↦ absurd (omega (
        arith,
        some_speed pes p are inside,
        mul-le-mul_right (speed_of pes p) (is_needed.least sooner before),
        mul-le-mul_right scale from,
        mul-le-mul_right next.speed by,
      ))
    ]

    late : (sooner : ℕ) → sooner < needed → AreLate (IsPast pes sooner scale) xs pes h.ends.walk.ends
    late sooner before = record {
      starts = h.ends.walk.greedy.starts;
      onward = greedy_onward xs pes ticks scale (count pes) h.ends.walk.ends h.ends.walk.greedy;
      ends = ends_short;
      late = λ p inside. past p (background_of pes p + load xs (slice_index h.ends.walk.ends p) (slice_index h.ends.walk.ends (p + 1) + 1)) sooner inside before (h.more p inside);
    }

-- the time after it has a speed where there was a block
pub next_speed : (xs : List ℕ) (pes : Pes) (k ticks scale end : ℕ) (latest next : EndTime) → ArePes pes → Walked xs pes k ticks scale end latest next → 1 ≤ k → k ≤ count pes → 1 ≤ next.speed
next_speed xs pes k ticks scale end latest next are h some inside =
    speed_from next.work (speed_of pes 0) (background_of pes 0 + load xs (slice_index h.ends.walk.ends 0) (slice_index h.ends.walk.ends (0 + 1) + 1)) next.speed
    h.some_next (some_speed pes 0 are (omega arith)) (h.more 0 (omega arith))
