-- Rows, written from their last place to their first.
use Rattle.std.proofs.Common.{◌≡◌, ◌≢◌, ℕ, ◌+◌, ◌-◌, ◌<◌, ◌≤◌, min, List, ◌++◌, length, set, take, drop, slice_index, sum, arith, ap, sym, subst, inl, inr}
use Rattle.std.proofs.lemmas.Bool.{cases_eq, cases_lt}
use Rattle.std.proofs.lemmas.List.{get_or-set_other, get_or-set_same, length-set}
use Rattle.std.proofs.Math.Seq.{take-append_seam}
use Rattle.refinement_search.specs.Tables.{IsRow}
use Rattle.merged_refinement.specs.Rows.{AreLeastFrom, row_at}

-- the last number
pub least_last : (sum : ℕ → ℕ) (heights : List ℕ) (v : ℕ) → 0 < length heights → v ≡ sum (length heights - 1)
    → AreLeastFrom sum (set heights (length heights - 1) v) (length heights - 1)
least_last sum heights v some is =
    let last : ℕ = length heights - 1 in
    let here : slice_index (set heights last v) last ≡ v = get_or-set_same heights last v 0 (omega arith) in
    let counted : length (set heights last v) ≡ length heights = length-set heights last v in
    let only : (z : ℕ) → last ≤ z → z < length (set heights last v) → last ≡ z = λ z from inside. omega (arith, from, inside, counted) in
    record {
      low = λ z from inside. subst (λ n. slice_index (set heights last v) n ≤ sum n) (only z from inside) (omega (arith, here, is));
      rises = λ y z from onward inside.
          let one : last ≡ z = only z (omega (arith, from, onward)) inside in
          let other : y ≡ z = omega (arith, one, from, onward) in
          subst (λ n. slice_index (set heights last v) n ≤ slice_index (set heights last v) z) (sym other) (omega arith);
      reached = λ z from inside.
          let one : last ≡ z = only z from inside in
          (last, omega (arith, one), omega (arith, counted, some), subst (λ n. sum last ≤ slice_index (set heights last v) n) one (omega (arith, here, is)));
    }

-- and the one before
pub least_before : (sum : ℕ → ℕ) (heights : List ℕ) (i v : ℕ) → 0 < i → i < length heights → AreLeastFrom sum heights i
    → v ≡ min (slice_index heights i) (sum (i - 1)) → AreLeastFrom sum (set heights (i - 1) v) (i - 1)
least_before sum heights i v some inside h is =
    let one : ℕ = i - 1 in
    let here : slice_index (set heights one v) one ≡ v = get_or-set_same heights one v 0 (omega arith) in
    let counted : length (set heights one v) ≡ length heights = length-set heights one v in
    let other : (z : ℕ) → z ≢ one → slice_index (set heights one v) z ≡ slice_index heights z = λ z apart. get_or-set_other heights one z v 0 apart in
    record {
      low = λ z from within. elim (cases_eq z one) [
        | inl met ↦ subst (λ n. slice_index (set heights one v) n ≤ sum n) (sym met) (omega (arith, here, is))
        | inr apart ↦ omega (arith, other z apart, h.low z (omega (arith, from, apart)) (omega (arith, within, counted)))
      ];
      rises = λ y z from onward within. elim (cases_eq z one) [
        | inl met ↦
            let same : y ≡ z = omega (arith, met, from, onward) in
            subst (λ n. slice_index (set heights one v) n ≤ slice_index (set heights one v) z) (sym same) (omega arith)
        | inr apart ↦
            let few : z < length heights = omega (arith, within, counted) in
            let behind : i ≤ z = omega (arith, from, onward, apart) in
            elim (cases_eq y one) [
              | inl first ↦ subst (λ n. slice_index (set heights one v) n ≤ slice_index (set heights one v) z) (sym first)
                  (omega (arith, here, is, other z apart, h.rises i z (omega arith) behind few))
              | inr further ↦ omega (arith, other y further, other z apart, h.rises y z (omega (arith, from, further)) onward few)
            ]
      ];
      reached = λ z from within. elim (cases_eq z one) [
        | inl met ↦ elim (cases_lt (slice_index heights i) (sum one)) [
          | inl kept ↦
              let there = h.reached i (omega arith) inside in (
                there.0,
                omega (arith, there.1, met),
                omega (arith, there.2, counted),
                subst (λ n. sum there.0 ≤ slice_index (set heights one v) n) (sym met) (omega (arith, here, is, kept, there.3)),
              )
          | inr lower ↦
              (one, omega (arith, met), omega (arith, inside, counted), subst (λ n. sum one ≤ slice_index (set heights one v) n) (sym met) (omega (arith, here, is, lower)))
        ]
        | inr apart ↦
            let there = h.reached z (omega (arith, from, apart)) (omega (arith, within, counted)) in
            (there.0, there.1, omega (arith, there.2, counted), omega (arith, other z apart, there.3))
      ];
    }

-- the numbers are a row
pub row_of : (near far : ℕ) (start cost : ℕ → ℕ) (below : ℕ × List ℕ) (heights : List ℕ) → near ≤ far → length heights ≡ far - near + 1
    → AreLeastFrom (λ i. row_at below (start (near + i)) + cost (near + i)) heights 0
    → IsRow near far start cost (row_at below) (row_at (near, heights))
row_of near far start cost below heights some counted h =
    record {
      flat = λ x early. ap (slice_index heights) (omega (arith, early));
      level = λ x late. ap (slice_index heights) (omega (arith, late, counted));
      rises = λ x y onward. h.rises (min (x - near) (length heights - 1)) (min (y - near) (length heights - 1)) (omega arith) (omega (arith, onward)) (omega (arith, counted));
      low = λ x from to.
          let place : near + (x - near) ≡ x = omega (arith, from) in
          let here : min (x - near) (length heights - 1) ≡ x - near = omega (arith, from, to, counted) in
          let low : slice_index heights (x - near) ≤ row_at below (start (near + (x - near))) + cost (near + (x - near)) = h.low (x - near)
          (omega arith) (omega (arith, from, to, counted)) in
          let there : slice_index heights (x - near) ≤ row_at below (start x) + cost x = subst (λ n. slice_index heights (x - near) ≤ row_at below (start n) + cost n) place low in
          omega (arith, there, ap (slice_index heights) here);
      reached = λ x from to.
          let here : min (x - near) (length heights - 1) ≡ x - near = omega (arith, from, to, counted) in
          let there = h.reached (x - near) (omega arith) (omega (arith, from, to, counted)) in
          (near + there.0, omega (arith, there.1, from), omega (arith, there.2, counted, some), omega (arith, there.3, ap (slice_index heights) here));
    }

-- a list that was written over as a whole
pub all_written : (n : ℕ) (new old : List ℕ) → length new ≡ n → take n (new ++ drop (length new) old) ≡ new
all_written n new old counted =
    subst (λ k. take k (new ++ drop (length new) old) ≡ new) counted (take-append_seam new (drop (length new) old))
