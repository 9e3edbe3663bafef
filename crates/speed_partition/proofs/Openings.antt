-- The times between which the search for the least time begins.
use Rattle.std.proofs.Common.{◌≡◌, ℕ, suc, zero, ◌+◌, ◌*◌, ◌/◌, ◌%◌, ◌^◌, ◌<◌, ◌≤◌, inl, inr, List, All, min, max, length, get_or, slice_index, sum, take, add-one, ap, arith, subst}
use Rattle.std.specs.List.Sorted.{IsNonDecreasing}
use Rattle.std.proofs.lemmas.Bool.{cases_lt, cases_eq}
use Rattle.std.proofs.lemmas.Grind.{div_ceil_times}
use Rattle.std.proofs.lemmas.List.Sums.{sum_by_more}
use Rattle.std.proofs.Math.Nat.{mul-le-mul_left, mul-le-mul_right}
use Rattle.lb_snapshot.specs.Measured.{load}
use Rattle.lb_certificates.proofs.Chains.{load_wider}
use Rattle.chain_partition.proofs.Ranges.{load_more}
use Rattle.chain_partition.proofs.RunningSums.{load_split, load_within}
use Rattle.speed_certificates.specs.declared.limits.TheConstants.SpeedLimits.{BACKGROUND}
use Rattle.speed_certificates.specs.Speeds.{Pes, ArePes, EndsBy, count, speed_of, background_of}
use Rattle.speed_certificates.proofs.LateSomewhere.{AreLate}
use Rattle.speed_partition.specs.declared.opening.PeTotals.{PeTotals}
use Rattle.speed_partition.specs.Greedy.{CanEnd, AllIdleBy}
use Rattle.speed_partition.specs.Search.{StopBefore, Enclose}
use Rattle.speed_partition.specs.Ticks.{ArePeTotals, IsNeeded, IsScale}
use Rattle.speed_partition.proofs.GreedyTimes.{IsPast, some_ends, greedy_full, greedy_inside, greedy_ordered, greedy_past, idle_by}
use Rattle.speed_partition.proofs.TickSearch.{all_on_one, below_ceiling, bounds_ordered, share_stops}
use Rattle.speed_partition.proofs.WalkedTimes.{needed_within}

-- greedy blocks that leave elements do more than what is to be shared, where each PE has the time of the share and that of the greatest load
shares_done : (xs : List ℕ) (pes : Pes) (scale low high greatest : ℕ) (ends : List ℕ) → ArePes pes → All (λ w. w ≤ greatest) xs
    → ((p : ℕ) → p < count pes → low * speed_of pes p + greatest * scale ≤ high * speed_of pes p)
    → AreLate (IsPast pes high scale) xs pes ends → IsNonDecreasing ends → length ends ≡ count pes + 1 → (k : ℕ) → k ≤ count pes
    → low * sum (take k pes.speeds) + k ≤ (load xs 0 (slice_index ends k) + sum (take k pes.background)) * scale
shares_done xs pes scale low high greatest ends are small slack late ordered counted zero inside = omega arith
shares_done xs pes scale low high greatest ends are small slack late ordered counted (suc k) inside =
    let before = shares_done xs pes scale low high greatest ends are small slack late ordered counted k (omega arith) in
    let rises : slice_index ends k ≤ slice_index ends (k + 1) = late.onward k (omega arith) in
    let stays : slice_index ends (k + 1) ≤ slice_index ends (count pes) = ordered (k + 1) (count pes) 0 (omega arith) (omega (arith, counted)) in
    let last : get_or xs (slice_index ends (k + 1)) 0 ≤ greatest = small (slice_index ends (k + 1)) 0 (omega (arith, stays, late.ends)) in
    let one : load xs (slice_index ends k) (slice_index ends (k + 1) + 1) ≡ load xs (slice_index ends k) (slice_index ends (k + 1)) + get_or xs (slice_index ends (k + 1)) 0 =
    load_more xs (slice_index ends k) (slice_index ends (k + 1)) 0 rises (omega (arith, stays, late.ends)) in
    let whole : load xs 0 (slice_index ends k) + load xs (slice_index ends k) (slice_index ends (k + 1)) ≡ load xs 0 (slice_index ends (k + 1)) =
    load_split xs (slice_index ends k) (slice_index ends (k + 1)) rises in
    let units : sum (take (k + 1) pes.background) ≡ sum (take k pes.background) + background_of pes k = sum_by_more (λ x. x) pes.background k 0 (omega (arith, are.paired)) in
    let speed : sum (take (k + 1) pes.speeds) ≡ sum (take k pes.speeds) + speed_of pes k = sum_by_more (λ x. x) pes.speeds k 0 (omega arith) in
    rw (← add-one k) (omega (
      arith,
      before,
      slack k (omega arith),
      late.late k (omega arith),
      mul-le-mul_right scale last,
      ap (λ n. n * scale) one,
      ap (λ n. n * scale) whole,
      ap (λ n. n * scale) units,
      ap (λ n. low * n) speed,
    ))

-- so by that time all PEs can end
pub share_fits : (xs : List ℕ) (pes : Pes) (scale low high greatest : ℕ) → ArePes pes → All (λ w. w ≤ greatest) xs
    → ((p : ℕ) → p < count pes → low * speed_of pes p + greatest * scale ≤ high * speed_of pes p) → AllIdleBy pes high scale
    → (load xs 0 (length xs) + sum (take (count pes) pes.background)) * scale ≤ low * sum (take (count pes) pes.speeds) → CanEnd xs pes high scale
share_fits xs pes scale low high greatest are small slack idle share =
    let ends = some_ends xs pes high scale (count pes) idle (omega arith) in
    let inside = greedy_inside xs pes high scale (count pes) ends.1.ends ends.1.greedy (count pes) (omega arith) in
    elim (cases_eq (slice_index ends.1.ends (count pes)) (length xs)) [
      | inl full ↦ greedy_full xs pes high scale ends.1.ends ends.1.greedy full
      | inr short ↦
          let late = greedy_past xs pes high scale ends.1.ends ends.1.greedy (omega (arith, short, inside)) in
          let done = shares_done xs pes scale low high greatest ends.1.ends are small slack late
          (greedy_ordered xs pes high scale (count pes) ends.1.ends ends.1.greedy) ends.1.greedy.counted (count pes) (omega arith) in
          let part : load xs 0 (slice_index ends.1.ends (count pes)) ≤ load xs 0 (length xs) = load_wider xs _ _ _ _ (omega arith) (omega arith) inside in
          absurd (omega (arith, done, share, are.some_pe, mul-le-mul_right scale part))
    ]

-- what the greatest load takes on the slowest PE is enough on each
slack_of : (pes : Pes) (scale low greatest slowest needed p : ℕ) → IsNeeded greatest slowest scale needed → slowest ≤ speed_of pes p
    → low * speed_of pes p + greatest * scale ≤ (low + needed) * speed_of pes p
slack_of pes scale low greatest slowest needed p h slow = omega (arith, h.by, mul-le-mul_left needed slow)

-- a quotient, rounded up, is enough
ceiling_enough : (total speed : ℕ) → 1 ≤ speed → total ≤ (total / speed + min 1 (total % speed)) * speed
ceiling_enough total speed some = omega (arith, (div_ceil_times total speed some).0)

-- the times between which the search begins
pub opening_encloses : (xs : List ℕ) (pes : Pes) (scale greatest needed share : ℕ) (totals : PeTotals) → IsScale pes scale
    → All (λ w. w ≤ greatest) xs → ArePeTotals pes scale (count pes) totals → IsNeeded greatest totals.slowest scale needed → 1 ≤ totals.speed
    → share ≡ (load xs 0 (length xs) + totals.background) * scale / totals.speed + min 1 ((load xs 0 (length xs) + totals.background) * scale % totals.speed)
    → Enclose xs pes scale (max share totals.idle) (max share totals.idle + needed)
opening_encloses xs pes scale greatest needed share totals h small are is_needed some share_is =
    record { stops = stops; fits = fits }
  where
    low : ℕ
    low = max share totals.idle

    work : ℕ
    work = (load xs 0 (length xs) + totals.background) * scale

    stops : StopBefore xs pes scale (max share totals.idle)
    stops ticks before fit = elim (cases_lt ticks share) [
      | inl sooner ↦ share_stops xs pes scale (load xs 0 (length xs) + totals.background) totals.speed share h.are
          (omega (arith, are.background_is)) are.speed_is (λ t first. below_ceiling work totals.speed some t (omega (arith, first, share_is))) ticks sooner fit
      | inr behind ↦ absurd (omega (arith, behind, before, are.idle_least ticks (idle_by xs pes ticks scale fit)))
    ]

    enough : work ≤ low * totals.speed
    enough =
        let from : work / totals.speed + min 1 (work % totals.speed) ≤ low = omega (arith, share_is) in
        omega (arith, ceiling_enough work totals.speed some, mul-le-mul_right totals.speed from)

    whole : (load xs 0 (length xs) + sum (take (count pes) pes.background)) * scale ≤ low * sum (take (count pes) pes.speeds)
    whole = rw (← are.background_is, ← are.speed_is) enough

    idle : AllIdleBy pes (max share totals.idle + needed) scale
    idle p inside =
        let later : totals.idle ≤ max share totals.idle + needed = omega arith in
        omega (arith, are.idle_by p inside, mul-le-mul_right (speed_of pes p) later)

    fits : CanEnd xs pes (max share totals.idle + needed) scale
    fits = share_fits xs pes scale low (low + needed) greatest h.are small
        (λ p inside. slack_of pes scale low greatest totals.slowest needed p is_needed (are.slowest p inside)) idle whole

-- which are few ticks
pub opening_few : (xs : List ℕ) (pes : Pes) (scale low greatest needed : ℕ) → IsScale pes scale → sum xs < 2 ^ 63 → greatest ≤ sum xs → StopBefore xs pes scale low
    → needed ≤ greatest * scale → low + needed ≤ 2 ^ 107
opening_few xs pes scale low greatest needed h light heaviest stops small =
    let total : load xs 0 (length xs) ≤ sum xs = load_within xs 0 (length xs) (omega arith) in
    omega (
      arith,
      small,
      bounds_ordered xs pes scale low ((BACKGROUND + load xs 0 (length xs)) * scale) stops (all_on_one xs pes scale h.are),
      mul-le-mul_left (BACKGROUND + load xs 0 (length xs)) h.small,
      mul-le-mul_right (2 ^ 40) total,
      mul-le-mul_left greatest h.small,
    )

-- what one more PE makes of the PEs together
pub totals_more : (pes : Pes) (scale k needed : ℕ) (t : PeTotals) → ArePes pes → k < count pes → ArePeTotals pes scale k t
    → IsNeeded (background_of pes k) (speed_of pes k) scale needed
    → ArePeTotals pes scale (k + 1) (record { background = t.background + background_of pes k; speed = t.speed + speed_of pes k; slowest = min t.slowest (speed_of pes k); idle = max t.idle needed })
totals_more pes scale k needed t are inside h is_needed =
    record {
      background_is = omega (arith, h.background_is, sum_by_more (λ x. x) pes.background k 0 (omega (arith, are.paired)));
      speed_is = omega (arith, h.speed_is, sum_by_more (λ x. x) pes.speeds k 0 inside);
      slowest = λ p within. elim (cases_lt p k) [
        | inl before ↦ omega (arith, h.slowest p before)
        | inr latest ↦
            let same : k ≡ p = omega arith in
            subst (λ q. min t.slowest (speed_of pes k) ≤ speed_of pes q) same (omega arith)
      ];
      idle_by = λ p within. elim (cases_lt p k) [
        | inl before ↦
            let later : t.idle ≤ max t.idle needed = omega arith in
            omega (arith, h.idle_by p before, mul-le-mul_right (speed_of pes p) later)
        | inr latest ↦
            let same : k ≡ p = omega arith in
            let later : needed ≤ max t.idle needed = omega arith in
            subst (λ q. EndsBy pes (max t.idle needed) scale q (background_of pes q)) same (omega (arith, is_needed.by, mul-le-mul_right (speed_of pes k) later))
      ];
      idle_least = λ ticks by. omega (
        arith,
        h.idle_least ticks (λ p before. by p (omega arith)),
        needed_within (background_of pes k) (speed_of pes k) scale needed ticks is_needed (by k (omega arith)),
      );
    }

pub idle_small : (background scale : ℕ) → background ≤ BACKGROUND → scale ≤ 2 ^ 40 → background * scale ≤ 2 ^ 87
idle_small background scale small fine = omega (arith, mul-le-mul_left background fine, mul-le-mul_right (2 ^ 40) small)
