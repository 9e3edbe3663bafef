-- The loads of ranges in a chain that comes part by part.
use Rattle.std.proofs.Common.{◌≡◌, ◌∙◌, ℕ, ◌+◌, ◌-◌, ◌<◌, ◌≤◌, min, max, inl, inr, List, [], ◌++◌, length, set, slice_index, sum, take, arith, ap, refl, subst}
use Rattle.std.proofs.lemmas.Bool.{cases_lt}
use Rattle.std.proofs.lemmas.List.{get_or-set_other, get_or-set_same, take-append-le, take_all, take_min}
use Rattle.lb_snapshot.specs.Measured.{load}
use Rattle.lb_certificates.specs.declared.division.Division.{Division}
use Rattle.lb_certificates.specs.declared.division.Floor.{Floor}
use Rattle.lb_certificates.specs.declared.division.Floor.TheVariants.{Zero, Fence}
use Rattle.lb_certificates.specs.Certificate.{MatchFloor, range_load}
use Rattle.lb_certificates.proofs.Chains.{load_after}
use Rattle.chain_partition.proofs.Ranges.{load_nothing}
use Rattle.merged_chains.specs.Weights.{ArePartWeights, AreRangeLoads, AreSums, AreWeights}
use Rattle.merged_chains.proofs.MergedPeaks.{load_back}
use Rattle.merged_chains.proofs.Parts.{sum_to}

-- the first elements of both parts
to_both : (xs ys : List ℕ) (a : ℕ) → sum (take a (xs ++ ys)) ≡ sum (take a xs) + sum (take (a - length xs) ys)
to_both xs ys a =
    elim (cases_lt (length xs) a) [
      | inl behind ↦
          let e : length xs + (a - length xs) ≡ a = omega arith in
          let all : sum (take a xs) ≡ sum xs = ap sum (take_all a xs (omega arith)) in
          let both : sum (take a (xs ++ ys)) ≡ sum xs + sum (take (a - length xs) ys) = subst
          (λ n. sum (take n (xs ++ ys)) ≡ sum xs + sum (take (a - length xs) ys)) e (sum_to xs ys (length xs) (a - length xs) refl) in
          omega (arith, all, both)
      | inr before ↦
          let none : 0 ≡ a - length xs = omega arith in
          let front : sum (take a (xs ++ ys)) ≡ sum (take a xs) = ap sum (take-append-le a xs ys before) in
          let nothing : sum (take (a - length xs) ys) ≡ 0 = subst (λ n. sum (take n ys) ≡ 0) none refl in
          omega (arith, front, nothing)
    ]

-- a range is what one part has of it and what the next part has
load_parts : (xs ys : List ℕ) (a b : ℕ) → load (xs ++ ys) a b ≡ load xs a b + load ys (a - length xs) (b - length xs)
load_parts xs ys a b =
    elim (cases_lt b a) [
      | inl back ↦ omega (arith, load_back (xs ++ ys) a b (omega arith), load_back xs a b (omega arith), load_back ys (a - length xs) (b - length xs) (omega arith))
      | inr onward ↦ omega (
        arith,
        to_both xs ys a,
        to_both xs ys b,
        load_after (xs ++ ys) a b onward,
        load_after xs a b onward,
        load_after ys (a - length xs) (b - length xs) (omega arith),
      )
    ]

to_last : (xs : List ℕ) (a : ℕ) → sum (take (min (length xs) a) xs) ≡ sum (take a xs)
to_last xs a =
    let e : min (length xs) a ≡ min a (length xs) = omega arith in
    ap (λ n. sum (take n xs)) e ∙ ap sum (take_min a xs)

-- a range, cut off behind the last element
pub load_cut : (xs : List ℕ) (x from to a b : ℕ) → x ≡ load xs from to → from ≡ min (length xs) a → to ≡ max (min (length xs) b) from → x ≡ load xs a b
load_cut xs x from to a b weighs from_is to_is =
    elim (cases_lt b a) [
      | inl back ↦
          let e : from ≡ to = omega (arith, from_is, to_is) in
          omega (arith, weighs, subst (λ n. load xs from n ≡ 0) e (load_nothing xs from), load_back xs a b (omega arith))
      | inr onward ↦
          let e : to ≡ min (length xs) b = omega (arith, from_is, to_is) in
          let start : sum (take from xs) ≡ sum (take a xs) = ap (λ n. sum (take n xs)) from_is ∙ to_last xs a in
          let stop : sum (take to xs) ≡ sum (take b xs) = ap (λ n. sum (take n xs)) e ∙ to_last xs b in
          omega (arith, weighs, start, stop, load_after xs from to (omega (arith, to_is)), load_after xs a b onward)
    ]

-- the load of a range, by other names of its ends
pub load_named : (xs : List ℕ) (x first a b c e : ℕ) → x ≡ load xs (a - first) (b - first) → a ≡ c → b ≡ e → x ≡ load xs (c - first) (e - first)
load_named xs x first a b c e weighs one other =
    subst (λ n. x ≡ load xs (c - first) (n - first)) other (subst (λ n. x ≡ load xs (n - first) (b - first)) one weighs)

-- one more number
pub numbers_set : (f : ℕ → ℕ) (numbers : List ℕ) (n x : ℕ) → n < length numbers → ((b : ℕ) → b < n → slice_index numbers b ≡ f b) → x ≡ f n
    → (b : ℕ) → b < n + 1 → slice_index (set numbers n x) b ≡ f b
numbers_set f numbers n x inside so_far last b below =
    elim (cases_lt b n) [
      | inl earlier ↦ get_or-set_other numbers n b x 0 (omega arith) ∙ so_far b earlier
      | inr latest ↦
          let same : n ≡ b = omega arith in
          subst (λ k. slice_index (set numbers n x) k ≡ f k) same (get_or-set_same numbers n x 0 inside ∙ last)
    ]

-- what holds of the stops holds of a fence's
pub of_stops : {A : Type 0} (floor : Floor A) (stops : List ℕ) (P : List ℕ → Type 0) → MatchFloor floor (stops ≡ []) (λ s. stops ≡ s) → P stops → MatchFloor floor (Unit {0}) P
of_stops Zero stops P same h = tt
of_stops (Fence s) stops P same h = subst P same h

-- a fact for each floor from one of another kind
each_floor : {A : Type 0} (floor : Floor A) (P Q R : List ℕ → Type 0) → ((s : List ℕ) → P s → Q s → R s) → MatchFloor floor (Unit {0}) P
    → MatchFloor floor (Unit {0}) Q → MatchFloor floor (Unit {0}) R
each_floor Zero P Q R step h k = tt
each_floor (Fence s) P Q R step h k = step s h k

pub first_weights : {A : Type 0} (part : List ℕ) (p : ℕ) (d : Division A) (bl fl : List ℕ) → ArePartWeights part 0 p d bl fl → AreWeights part p d bl fl
first_weights part p d bl fl h =
    record {
      blocks_weigh = λ b inside. h.blocks_weigh b inside
          ∙ whole (slice_index d.cuts b) (slice_index d.cuts (b + 1)) (slice_index d.cuts b - 0) (slice_index d.cuts (b + 1) + 0 - 0)
          (omega arith) (omega arith);
      ranges_weigh = each_floor d.floor (λ s. AreRangeLoads part 0 p 1 s fl) (λ s. AreRangeLoads part 0 p 1 s fl)
          (λ s. (i : ℕ) → 0 < i → i ≤ p → slice_index fl (i - 1) ≡ range_load part s i) ranges h.ranges_weigh h.ranges_weigh;
    }
  where
    whole : (a b c e : ℕ) → c ≡ a → e ≡ b → load part c e ≡ load part a b
    whole a b c e one other = ap (λ n. load part n e) one ∙ ap (λ n. load part a n) other

    ranges : (s : List ℕ) → AreRangeLoads part 0 p 1 s fl → AreRangeLoads part 0 p 1 s fl → (i : ℕ) → 0 < i → i ≤ p → slice_index fl (i - 1) ≡ range_load part s i
    ranges s weigh _ i positive inside =
        let e : i - 1 + 1 ≡ i = omega arith in
        let last : slice_index s (i - 1 + 1) ≡ slice_index s i = ap (λ n. slice_index s n) e in
        weigh (i - 1) (omega arith) ∙ whole (slice_index s (i - 1)) (slice_index s i + 1) (slice_index s (i - 1) - 0)
        (slice_index s (i - 1 + 1) + 1 - 0) (omega arith) (omega (arith, last))

pub next_weights : {A : Type 0} (before part : List ℕ) (p : ℕ) (d : Division A) (bl fl here there bs fs : List ℕ)
    → AreWeights before p d bl fl → ArePartWeights part (length before) p d here there → AreSums p bl here bs → AreSums p fl there fs
    → AreWeights (before ++ part) p d bs fs
next_weights before part p d bl fl here there bs fs h k blocks ranges =
    record {
      blocks_weigh = λ b inside.
          let e : slice_index d.cuts (b + 1) + 0 - length before ≡ slice_index d.cuts (b + 1) - length before = omega arith in
          let weighs : slice_index here b ≡ load part (slice_index d.cuts b - length before)
          (slice_index d.cuts (b + 1) - length before) = subst
          (λ n. slice_index here b ≡ load part (slice_index d.cuts b - length before) n) e (k.blocks_weigh b inside) in
          omega (arith, blocks b inside, h.blocks_weigh b inside, weighs, load_parts before part (slice_index d.cuts b) (slice_index d.cuts (b + 1)));
      ranges_weigh = each_floor d.floor (λ s. (i : ℕ) → 0 < i → i ≤ p → slice_index fl (i - 1) ≡ range_load before s i)
          (λ s. AreRangeLoads part (length before) p 1 s there)
          (λ s. (i : ℕ) → 0 < i → i ≤ p → slice_index fs (i - 1) ≡ range_load (before ++ part) s i) both h.ranges_weigh k.ranges_weigh;
    }
  where
    both : (s : List ℕ) → ((i : ℕ) → 0 < i → i ≤ p → slice_index fl (i - 1) ≡ range_load before s i)
        → AreRangeLoads part (length before) p 1 s there → (i : ℕ) → 0 < i → i ≤ p → slice_index fs (i - 1) ≡ range_load (before ++ part) s i
    both s so_far weigh i positive inside =
        let e : i - 1 + 1 ≡ i = omega arith in
        let weighs : slice_index there (i - 1) ≡ load part (slice_index s (i - 1) - length before)
        (slice_index s i + 1 - length before) = subst (λ n. slice_index there (i - 1) ≡ load part
        (slice_index s (i - 1) - length before) (slice_index s n + 1 - length before)) e (weigh (i - 1) (omega arith)) in
        omega (arith, ranges (i - 1) (omega arith), so_far i positive inside, weighs, load_parts before part (slice_index s (i - 1)) (slice_index s i + 1))
