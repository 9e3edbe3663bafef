-- The least limit within which the blocks can hold all elements.
use Rattle.std.proofs.Common.{◌≡◌, ◌≢◌, ℕ, suc, zero, ◌+◌, ◌-◌, ◌*◌, ◌/◌, ◌%◌, ◌^◌, ◌<◌, ◌≤◌, ◌⊎◌, min, max, inl, inr, List, All, length, get_or, slice_index, sum, arith, add-one, ap, sym, ◌∙◌, subst}
use Rattle.std.proofs.lemmas.Bool.{cases_lt, cases_eq}
use Rattle.std.proofs.Math.Nat.{div-le_self, lt-mul-div-succ, mul-le-mul_left, mul-le-mul_right}
use Rattle.std.proofs.lemmas.Grind.{div_ceil_times}
use Rattle.std.proofs.lemmas.List.{get_or_default}
use Rattle.std.proofs.lemmas.List.Sums.{sum_by-take-le, sum_by_more_le}
use Rattle.lb_certificates.specs.Chain.{peak, IsDivision, IsLeastPeak}
use Rattle.lb_snapshot.specs.Measured.{load}
use Rattle.lb_certificates.specs.Certificate.{IsFence, MatchFloor, HoldsFor, IsCertified}
use Rattle.lb_certificates.specs.declared.division.Division.{Division}
use Rattle.lb_certificates.specs.declared.division.Floor.{Floor}
use Rattle.lb_certificates.specs.declared.division.Floor.TheVariants.{Zero, Fence}
use Rattle.lb_certificates.proofs.Chains.{load_after, load_wider, block_load-le-peak}
use Rattle.lb_certificates.proofs.LeastDivisions.{heavy_at}
use Rattle.chain_partition.specs.Chosen.{IsChosen}
use Rattle.chain_partition.specs.Greedy.{CanFit, IsGreatestEnd, IsGreedy, FitsAll, IsLeastFence}
use Rattle.chain_partition.specs.Search.{StopBelow, Enclose}
use Rattle.chain_partition.proofs.Ranges.{load_nothing, load_more}
use Rattle.chain_partition.proofs.GreedyCuts.{greedy_full, greedy_short, EndsAt, ends_none, ends_more, ends_inside, ends_fit}

-- a limit that fits, below which none does, is the least peak
pub least_from_bounds : (xs : List ℕ) (p bottleneck : ℕ) → CanFit xs p bottleneck → ((limit : ℕ) → limit < bottleneck → ¬ (CanFit xs p limit)) → IsLeastPeak xs 0 p bottleneck
least_from_bounds xs p bottleneck fit stops =
    record { reached = (fit.0, fit.1, omega (arith, fit.2, below fit.0 fit.1)); below = below }
  where
    below : (cuts : List ℕ) → IsDivision 0 (length xs) p cuts → bottleneck ≤ peak xs cuts
    below cuts division = elim (cases_lt (peak xs cuts) bottleneck) [
      | inl light ↦ absurd (stops (peak xs cuts) light (cuts, division, omega arith))
      | inr heavy ↦ heavy
    ]

-- within the least peak the greedy cuts place all elements
pub greedy_at_least : (xs : List ℕ) (p bottleneck : ℕ) (ends : List ℕ) → IsLeastPeak xs 0 p bottleneck → IsGreedy xs p bottleneck ends → FitsAll xs p bottleneck ends
greedy_at_least xs p bottleneck ends least greedy =
    elim (cases_eq (slice_index ends p) (length xs)) [
      | inl full ↦ (greedy_full xs p bottleneck ends greedy full).1
      | inr short ↦ absurd ((greedy_short xs p bottleneck ends greedy short).0 (least.reached.0, least.reached.1, omega (arith, least.reached.2)))
    ]

-- one below the least peak the greedy ends are the least fence for it
pub greedy_below_least : (xs : List ℕ) (p bottleneck : ℕ) (ends : List ℕ) → IsLeastPeak xs 0 p bottleneck → bottleneck ≢ 0
    → IsGreedy xs p (bottleneck - 1) ends → IsLeastFence xs p bottleneck ends
greedy_below_least xs p bottleneck ends least positive greedy =
    let e : bottleneck - 1 + 1 ≡ bottleneck = omega arith in
    elim (cases_eq (slice_index ends p) (length xs)) [
      | inl full ↦
          let fit = (greedy_full xs p (bottleneck - 1) ends greedy full).0 in
          absurd (omega (arith, fit.2, least.below fit.0 fit.1))
      | inr short ↦ subst (λ b. IsLeastFence xs p b ends) e (greedy_short xs p (bottleneck - 1) ends greedy short).1
    ]

floor_holds : {A : Type 0} (xs : List ℕ) (p bottleneck : ℕ) (floor : Floor A)
    → MatchFloor floor (bottleneck ≡ 0) (λ stops. (bottleneck ≢ 0) × IsLeastFence xs p bottleneck stops) → HoldsFor xs p bottleneck floor
floor_holds xs p bottleneck Zero h = h
floor_holds xs p bottleneck (Fence stops) h = h.1.fence

-- the chosen division is certified
pub certified_from_chosen : {A : Type 0} (xs : List ℕ) (p : ℕ) (d : Division A) → IsChosen xs p d → IsCertified xs p d
certified_from_chosen xs p d h =
    record {
      divides = h.cuts.divides;
      within = λ b inside. omega (arith, h.cuts.within, block_load-le-peak xs d.cuts b (omega (arith, h.cuts.divides.counted)));
      floor_holds = floor_holds xs p d.bottleneck d.floor h.floor;
    }

-- the greatest end of a block: the first candidate from the last element down that fits
end_below : (xs : List ℕ) (first limit k : ℕ) → first ≤ k → k ≤ length xs
    → ((other : ℕ) → other ≤ length xs → load xs first other ≤ limit → other ≤ k) → (end : ℕ) × IsGreatestEnd xs first limit end
end_below xs first limit zero onward inside tried =
    let e : first ≡ 0 = omega arith in (
      0,
      record {
        inside = inside;
        fits = subst (λ f. load xs f 0 ≤ limit) (sym e) (omega (arith, load_nothing xs 0));
        greatest = tried;
      },
    )
end_below xs first limit (suc k) onward inside tried =
    elim (cases_lt limit (load xs first (suc k))) [
      | inl heavy ↦
          let not_last : first ≢ suc k = λ e. absurd (omega (arith, heavy, ap (λ f. load xs f (suc k)) e, load_nothing xs (suc k))) in
          end_below xs first limit k (omega arith) (omega arith) (λ other within light.
          let apart : other ≢ suc k = λ e. absurd (omega (arith, heavy, light, ap (λ o. load xs first o) e)) in
          let below : other ≤ suc k = tried other within light in
          omega arith)
      | inr light ↦ (suc k, record { inside = inside; fits = light; greatest = tried })
    ]

pub some_end : (xs : List ℕ) (first limit : ℕ) → first ≤ length xs → (end : ℕ) × IsGreatestEnd xs first limit end
some_end xs first limit inside = end_below xs first limit (length xs) inside (omega arith) (λ other within _. within)

-- greedy blocks end somewhere
pub some_ends : (xs : List ℕ) (limit k : ℕ) → (end : ℕ) × EndsAt xs k limit end
some_ends xs limit zero = (0, ends_none xs limit)
some_ends xs limit (suc k) =
    let before = some_ends xs limit k in
    let next = some_end xs before.0 limit (ends_inside xs k limit before.0 before.1) in
    (next.0, rw (← add-one k) (ends_more xs k limit before.0 next.0 before.1 next.1))

-- i ranges of a fence above an even share and the greatest load have more load than i shares
fence_weight : (xs stops : List ℕ) (p share greatest : ℕ) → All (λ w. w ≤ greatest) xs → IsFence xs p (share + greatest + 1) stops → (i : ℕ)
    → i ≤ p → i * (share + 1) ≤ load xs 0 (slice_index stops i)
fence_weight xs stops p share greatest small fence zero inside = omega arith
fence_weight xs stops p share greatest small fence (suc i) inside =
    let before : i * (share + 1) ≤ load xs 0 (slice_index stops i) = fence_weight xs stops p share greatest small fence i (omega arith) in
    let rises : slice_index stops i ≤ slice_index stops (i + 1) = fence.ordered i (i + 1) 0 (omega arith) (omega (arith, fence.counted)) in
    let stays : slice_index stops (i + 1) ≤ slice_index stops p = fence.ordered (i + 1) p 0 (omega arith) (omega (arith, fence.counted)) in
    let heavy : share + greatest + 1 ≤ load xs (slice_index stops i) (slice_index stops (i + 1) + 1) = heavy_at xs p (share + greatest + 1) stops i fence.heavy (omega arith) in
    let last : get_or xs (slice_index stops (i + 1)) 0 ≤ greatest = small (slice_index stops (i + 1)) 0 (omega (arith, fence.ends)) in
    let one : load xs (slice_index stops i) (slice_index stops (i + 1) + 1) ≡ load xs (slice_index stops i)
    (slice_index stops (i + 1)) + get_or xs (slice_index stops (i + 1)) 0 = load_more xs _ _ 0 rises (omega (arith, fence.ends)) in
    let whole = load_after xs 0 (slice_index stops (i + 1)) (omega arith) in
    let front = load_after xs 0 (slice_index stops i) (omega arith) in
    let block = load_after xs (slice_index stops i) (slice_index stops (i + 1)) rises in
    rw (← add-one i) (omega (arith, before, heavy, last, one, whole, front, block))

-- a limit of an even share and the greatest load holds all elements
pub even_share : (xs : List ℕ) (p greatest : ℕ) → 0 < p → All (λ w. w ≤ greatest) xs → CanFit xs p (load xs 0 (length xs) / p + greatest)
even_share xs p greatest positive small =
    let share : ℕ = load xs 0 (length xs) / p in
    let ends = some_ends xs (share + greatest) p in
    elim (cases_eq ends.0 (length xs)) [
      | inl full ↦ ends_fit xs p (share + greatest) ends.0 ends.1 full
      | inr short ↦
          let fence = (greedy_short xs p (share + greatest) ends.1.ends ends.1.greedy (λ e. short (sym ends.1.last ∙ e))).1.fence in
          let heavy = fence_weight xs ends.1.ends p share greatest small fence p (omega arith) in
          let within = load_wider xs 0 (slice_index ends.1.ends p) 0 (length xs) (omega arith) (omega arith) (omega (arith, fence.ends)) in
          absurd (omega (arith, heavy, within, lt-mul-div-succ (load xs 0 (length xs)) positive))
    ]

-- no load is above the sum of all
pub all_within_sum : (xs : List ℕ) → All (λ w. w ≤ sum xs) xs
all_within_sum xs i d inside =
    omega (arith, sum_by_more_le (λ x. x) xs i d inside)

-- that limit is below 2^64
pub share_small : (xs : List ℕ) (p greatest : ℕ) → sum xs < 2 ^ 63 → greatest ≤ sum xs → load xs 0 (length xs) / p + greatest < 2 ^ 64
share_small xs p greatest small low =
    omega (arith, load_after xs 0 (length xs) (omega arith), sum_by-take-le (λ x. x) xs (length xs), div-le_self (load xs 0 (length xs)) p)

-- where nothing fits below one limit and another fits, the other is no lower
pub bounds_ordered : (xs : List ℕ) (p low high : ℕ) → StopBelow xs p low → CanFit xs p high → low ≤ high
bounds_ordered xs p low high stops fits =
    elim (cases_lt high low) [
      | inl below ↦ absurd (stops high below fits)
      | inr ordered ↦ ordered
    ]

-- what a walk shows narrows them
pub narrowed_above : (xs : List ℕ) (p low high heaviest : ℕ) → Enclose xs p low high → heaviest ≤ high → CanFit xs p heaviest → Enclose xs p low heaviest
narrowed_above xs p low high heaviest h below fits =
    record { stops = h.stops; fits = fits }

pub narrowed_below : (xs : List ℕ) (p low high next : ℕ) → Enclose xs p low high → StopBelow xs p next → Enclose xs p next high
narrowed_below xs p low high next h stops =
    record { stops = stops; fits = h.fits }

-- of two limits that hold all elements the lesser does, and below the greater of two bounds none does
pub lesser_fits : (xs : List ℕ) (p a b : ℕ) → CanFit xs p a → CanFit xs p b → CanFit xs p (min a b)
lesser_fits xs p a b h k =
    elim (cases_lt a b) [
      | inl below ↦
          let e : a ≡ min a b = omega arith in
          subst (λ n. CanFit xs p n) e h
      | inr above ↦
          let e : b ≡ min a b = omega arith in
          subst (λ n. CanFit xs p n) e k
    ]

pub greater_stops : (xs : List ℕ) (p a b : ℕ) → StopBelow xs p a → StopBelow xs p b → StopBelow xs p (max a b)
greater_stops xs p a b h k limit below =
    elim (cases_lt limit a) [
      | inl here ↦ h limit here
      | inr behind ↦ k limit (omega arith)
    ]

-- for each cut, element i is behind it, or its load is at most the peak
behind_cut : (xs : List ℕ) (p i : ℕ) (cuts : List ℕ) → IsDivision 0 (length xs) p cuts → i < length xs → (k : ℕ) → k ≤ p → (slice_index cuts k ≤ i) ⊎ (get_or xs i 0 ≤ peak xs cuts)
behind_cut xs p i cuts division within zero inside = inl (omega (arith, division.starts))
behind_cut xs p i cuts division within (suc k) inside =
    elim (behind_cut xs p i cuts division within k (omega arith)) [
      | inl before ↦ elim (cases_lt i (slice_index cuts (suc k))) [
        | inl here ↦
            let block : load xs (slice_index cuts k) (slice_index cuts (suc k)) ≤ peak xs cuts = rw (← add-one k)
            (block_load-le-peak xs cuts k (omega (arith, division.counted))) in
            let one : load xs i (i + 1) ≤ load xs (slice_index cuts k) (slice_index cuts (suc k)) = load_wider xs i (i + 1)
            (slice_index cuts k) (slice_index cuts (suc k)) before (omega arith) (omega arith) in
            inr (omega (arith, block, one, load_more xs i i 0 (omega arith) within, load_nothing xs i))
        | inr behind ↦ inl behind
      ]
      | inr heavy ↦ inr heavy
    ]

-- a limit that can hold all elements can hold each
each_fits : (xs : List ℕ) (p limit : ℕ) → CanFit xs p limit → All (λ w. w ≤ limit) xs
each_fits xs p limit fit i d inside =
    elim (behind_cut xs p i fit.0 fit.1 inside p (omega arith)) [
      | inl before ↦ absurd (omega (arith, before, inside, fit.1.ends))
      | inr heavy ↦ omega (arith, heavy, fit.2, get_or_default xs i d 0 inside)
    ]

-- the first k blocks weigh at most k peaks
blocks_weight : (xs : List ℕ) (p : ℕ) (cuts : List ℕ) → IsDivision 0 (length xs) p cuts → (k : ℕ) → k ≤ p → load xs 0 (slice_index cuts k) ≤ k * peak xs cuts
blocks_weight xs p cuts division zero inside =
    omega (arith, ap (λ n. load xs 0 n) division.starts, load_nothing xs 0)
blocks_weight xs p cuts division (suc k) inside =
    let before : load xs 0 (slice_index cuts k) ≤ k * peak xs cuts = blocks_weight xs p cuts division k (omega arith) in
    let rises : slice_index cuts k ≤ slice_index cuts (suc k) = division.ordered k (suc k) 0 (omega arith) (omega (arith, division.counted)) in
    let block : load xs (slice_index cuts k) (slice_index cuts (suc k)) ≤ peak xs cuts = rw (← add-one k) (block_load-le-peak xs cuts k (omega (arith, division.counted))) in
    let whole = load_after xs 0 (slice_index cuts (suc k)) (omega arith) in
    let front = load_after xs 0 (slice_index cuts k) (omega arith) in
    let last = load_after xs (slice_index cuts k) (slice_index cuts (suc k)) rises in
    omega (arith, before, block, whole, front, last)

-- a limit that holds all elements, times the number of blocks, is at least their total
total_fits : (xs : List ℕ) (p limit : ℕ) → CanFit xs p limit → load xs 0 (length xs) ≤ p * limit
total_fits xs p limit fit =
    omega (arith, subst (λ n. load xs 0 n ≤ p * peak xs fit.0) fit.1.ends (blocks_weight xs p fit.0 fit.1 p (omega arith)), mul-le-mul_left p fit.2)

-- no limit below an even share rounded up holds all elements
share_below : (total p limit : ℕ) → 0 < p → total ≤ p * limit → total / p + min 1 (total % p) ≤ limit
share_below total p limit positive within =
    elim (cases_lt limit (total / p + min 1 (total % p))) [
      | inl below ↦ absurd (omega (arith, within, (div_ceil_times total p positive).1, mul-le-mul_right p below))
      | inr fine ↦ fine
    ]

-- a search begins with limits that enclose the least bottleneck
pub opening_encloses : (xs : List ℕ) (p greatest total : ℕ) → 0 < p → All (λ w. w ≤ greatest) xs
    → ((limit : ℕ) → All (λ w. w ≤ limit) xs → greatest ≤ limit) → total ≡ load xs 0 (length xs)
    → Enclose xs p (max greatest (total / p + min 1 (total % p))) (total / p + greatest)
opening_encloses xs p greatest total positive above least whole =
    record {
      stops = λ limit below fit. absurd (omega (
        arith,
        below,
        least limit (each_fits xs p limit fit),
        share_below total p limit positive (omega (arith, whole, total_fits xs p limit fit)),
      ));
      fits = rw whole (even_share xs p greatest positive above);
    }
