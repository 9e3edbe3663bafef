-- Limits that enclose the least bottleneck, by the total and the greatest load.
use Rattle.std.proofs.Common.{◌≡◌, ◌∙◌, ℕ, ◌+◌, ◌/◌, ◌%◌, ◌≤◌, min, max, inl, inr, List, length, slice_index, sum, take, arith, ap, sym}
use Rattle.std.proofs.lemmas.Bool.{cases_lt, cases_eq}
use Rattle.std.proofs.lemmas.List.{take_all}
use Rattle.lb_snapshot.specs.Measured.{load}
use Rattle.lb_certificates.specs.Chain.{IsLeastPeak}
use Rattle.lb_certificates.proofs.Chains.{load_after}
use Rattle.chain_partition.specs.Greedy.{CanFit}
use Rattle.chain_partition.specs.Search.{Enclose}
use Rattle.chain_partition.proofs.RunningSums.{load_within}
use Rattle.chain_partition.proofs.GreedyCuts.{greedy_full, greedy_short}
use Rattle.chain_partition.proofs.Bottlenecks.{lesser_fits, opening_encloses, some_ends}
use Rattle.merged_chains.specs.Totals.{IsGreatest}

whole_load : (xs : List ℕ) → load xs 0 (length xs) ≡ sum xs
whole_load xs =
    let whole : sum (take (length xs) xs) ≡ sum xs = ap sum (take_all (length xs) xs (omega arith)) in
    omega (arith, load_after xs 0 (length xs) (omega arith), whole)

-- a limit of all loads holds all elements
all_fit : (xs : List ℕ) (p limit : ℕ) → 1 ≤ p → sum xs ≤ limit → CanFit xs p limit
all_fit xs p limit some enough =
    let ends = (some_ends xs limit p).1 in
    elim (cases_eq (slice_index ends.ends p) (length xs)) [
      | inl full ↦ (greedy_full xs p limit ends.ends ends.greedy full).0
      | inr short ↦
          let fence = (greedy_short xs p limit ends.ends ends.greedy short).1.fence in
          let heavy : limit + 1 ≤ load xs (slice_index ends.ends 0) (slice_index ends.ends 1 + 1) = fence.heavy 1 (omega arith) (omega arith) in
          absurd (omega (arith, heavy, load_within xs (slice_index ends.ends 0) (slice_index ends.ends 1 + 1) (omega (arith, fence.starts))))
    ]

pub shares_enclose : (xs : List ℕ) (p greatest total most : ℕ) → 1 ≤ p → sum xs ≡ total → IsGreatest xs greatest → total ≤ most
    → Enclose xs p (max greatest (total / p + min 1 (total % p))) (min (total / p + greatest) most)
shares_enclose xs p greatest total most some whole g small =
    let enclosed = opening_encloses xs p greatest total (omega arith) g.none_above g.least (sym (whole_load xs ∙ whole)) in
    record {
      stops = enclosed.stops;
      fits = lesser_fits xs p (total / p + greatest) most enclosed.fits (all_fit xs p most some (omega (arith, whole, small)));
    }

-- limits that enclose it hold the least peak between them
pub least_between : (xs : List ℕ) (p low high least : ℕ) → Enclose xs p low high → IsLeastPeak xs 0 p least → (low ≤ least) × (least ≤ high)
least_between xs p low high least h peak_is =
    (from, omega (arith, peak_is.below h.fits.0 h.fits.1, h.fits.2))
  where
    from : low ≤ least
    from = elim (cases_lt least low) [
      | inl below ↦ absurd (h.stops least below (peak_is.reached.0, peak_is.reached.1, omega (arith, peak_is.reached.2)))
      | inr above ↦ above
    ]
