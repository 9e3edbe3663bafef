-- How many numbers below a bound pass a test, and which of them is the k-th.
use Rattle.std.proofs.Common.{◌≡◌, ◌≢◌, ◌∙◌, inl, inr, ◌⊎◌, ℕ, zero, suc, ◌+◌, ◌-◌, ◌*◌, ◌/◌, ◌<◌, ◌≤◌, ◌^◌, Bool, true, false, cond, eqb, List, [], ◌∷◌, ◌++◌, length, length-append, get_or, None, Some, slice_get, slice_set, replicate, refl, ap, sym, subst, arith}
use Rattle.std.specs.Bool.{beq}
use Rattle.std.specs.List.{filter, range_with_len}
use Rattle.std.proofs.lemmas.Bool.{cases_lt}
use Rattle.std.proofs.lemmas.Bool.Decides.{eqb_tells}
use Rattle.std.proofs.lemmas.List.{length-replicate, set-get_or, get_or-set_same, get_or-set_other, length-set}
use Rattle.std.proofs.lemmas.List.Elements.{filter-append}
use Rattle.std.proofs.lemmas.Option.{slice_get_past}
use Rattle.schedules.specs.NumberSets.{AreCounted, below, has, members, those}

-- a range in two parts
pub range_split : (a n m k b : ℕ) → k ≡ n + m → b ≡ a + n → range_with_len a k ≡ range_with_len a n ++ range_with_len b m
range_split a zero m k b e f =
    let x : k ≡ m = omega (arith, e) in
    let y : a ≡ b = omega (arith, f) in
    ap (λ (z : ℕ). range_with_len a z) x ∙ ap (λ (z : ℕ). range_with_len z m) y
range_split a (suc n) m zero b e f = absurd (omega (arith, e))
range_split a (suc n) m (suc k) b e f = ap (λ (zs : List ℕ). a ∷ zs) (range_split (a + 1) n m k b (omega (arith, e)) (omega (arith, f)))

abbrev pub bit : Bool → ℕ
bit true = 1
bit false = 0

pub at_most_one : (b : Bool) → bit b ≤ 1
at_most_one true = omega arith
at_most_one false = omega arith

one_counts : (b : Bool) (n : ℕ) → length (cond b (n ∷ []) []) ≡ bit b
one_counts true n = refl
one_counts false n = refl

-- the member in the middle
pub in_middle : {X : Type 0} (xs : List X) (x : X) (ys : List X) (k : ℕ) → k ≡ length xs → slice_get (xs ++ x ∷ ys) k ≡ Some x
in_middle [] x ys zero e = refl
in_middle [] x ys (suc k) e = absurd (omega (arith, e))
in_middle (y ∷ xs) x ys zero e = absurd (omega (arith, e))
in_middle (y ∷ xs) x ys (suc k) e = in_middle xs x ys k (omega (arith, e))

module _ (test : ℕ → Bool) where
  abbrev pub count : ℕ → ℕ
  count n = length (those test n)

  pub count_more : (n k : ℕ) → k ≡ n + 1 → count k ≡ count n + bit (test n)
  count_more n k e =
      ap (λ (xs : List ℕ). length (filter test xs)) (range_split 0 n 1 k n e (omega arith))
      ∙ ap length (filter-append test (range_with_len 0 n) (n ∷ []))
      ∙ length-append (those test n) (filter test (n ∷ []))
      ∙ ap (λ (z : ℕ). count n + z) (one_counts (test n) n)

  pub count_grows : (n d k : ℕ) → k ≡ n + d → (count n ≤ count k) × (count k ≤ count n + d)
  count_grows n zero k e =
      let x : count k ≡ count n = ap count (omega (arith, e)) in
      (omega (arith, x), omega (arith, x))
  count_grows n (suc d) k e =
      let before = count_grows n d (n + d) refl in
      let more = count_more (n + d) k (omega (arith, e)) in
      let one = at_most_one (test (n + d)) in
      (omega (arith, before.0, more), omega (arith, before.1, more, one))

  -- the k-th, where a number passes that has k before it
  nth_by : (at m : ℕ) (b : Bool) → b ≡ true
      → slice_get (those test at ++ cond b (at ∷ filter test (range_with_len (at + 1) m)) (filter test (range_with_len (at + 1) m))) (count at) ≡ Some at
  nth_by at m true e = in_middle (those test at) at (filter test (range_with_len (at + 1) m)) (count at) refl
  nth_by at m false e = cc

  pub nth_at : (at n k : ℕ) → test at ≡ true → at < n → k ≡ count at → slice_get (those test n) k ≡ Some at
  nth_at at n k passes within e =
      let split : those test n ≡ those test at ++ filter test (range_with_len at (suc (n - suc at))) =
      ap (filter test) (range_split 0 at (suc (n - suc at)) n at (omega (arith, within)) (omega arith))
      ∙ filter-append test (range_with_len 0 at) (range_with_len at (suc (n - suc at))) in
      ap (λ (xs : List ℕ). slice_get xs k) split ∙ ap (λ (i : ℕ). slice_get
      (those test at ++ filter test (range_with_len at (suc (n - suc at)))) i) e ∙ nth_by at (n - suc at) (test at) passes

  pub nth_past : (n k : ℕ) → count n ≤ k → slice_get (those test n) k ≡ None
  nth_past n k past = slice_get_past (those test n) k past

-- the counts of two tests that differ at one number at most
module _ (test test' : ℕ → Bool) (i : ℕ) (others : (k : ℕ) → k ≢ i → test' k ≡ test k) where
  pub count_others : (n : ℕ) → n ≤ i → count test' n ≡ count test n
  count_others zero few = refl
  count_others (suc n) few =
      let before = count_others n (omega (arith, few)) in
      let e : bit (test' n) ≡ bit (test n) = ap bit (others n (λ (x : n ≡ i). omega (arith, x, few))) in
      omega (arith, before, e, count_more test n (suc n) (omega arith), count_more test' n (suc n) (omega arith))

  pub count_changed : (d n : ℕ) → n ≡ i + 1 + d → count test' n + bit (test i) ≡ count test n + bit (test' i)
  count_changed zero n e =
      let before = count_others i (omega arith) in
      omega (arith, before, count_more test i n (omega (arith, e)), count_more test' i n (omega (arith, e)))
  count_changed (suc d) n e =
      let before = count_changed d (i + 1 + d) refl in
      let same : bit (test' (i + 1 + d)) ≡ bit (test (i + 1 + d)) = ap bit (others (i + 1 + d) (λ (x : i + 1 + d ≡ i). omega (arith, x))) in
      omega (arith, before, same, count_more test (i + 1 + d) n (omega (arith, e)), count_more test' (i + 1 + d) n (omega (arith, e)))

-- an empty set
pub none_counted : (n m : ℕ) → count (has (replicate m false)) n ≡ 0
none_counted zero m = refl
none_counted (suc n) m = omega (arith, none_counted n m, count_more (has (replicate m false)) n (suc n) (omega arith), ap bit (off m n))
  where
    off : (m n : ℕ) → get_or (replicate m false) n false ≡ false
    off zero n = refl
    off (suc m) zero = refl
    off (suc m) (suc n) = off m n

-- a flag that is turned
module _ (flags : List Bool) (i : ℕ) (b : Bool) (within : i < length flags) where
  others : (k : ℕ) → k ≢ i → has (slice_set flags i b) k ≡ has flags k
  others k apart = get_or-set_other flags i k b false apart

  here : has (slice_set flags i b) i ≡ b
  here = get_or-set_same flags i b false within

  abbrev now : List Bool
  now = slice_set flags i b

  pub below_same : (n : ℕ) → n ≤ i → below now n ≡ below flags n
  below_same n few = count_others (has flags) (has now) i others n few

  pub below_changed : (n : ℕ) → i < n → below now n + bit (has flags i) ≡ below flags n + bit b
  below_changed n more =
      count_changed (has flags) (has now) i others (n - suc i) n (omega (arith, more)) ∙ ap (λ (x : Bool). below flags n + bit x) here

  module _ (blocks : List ℕ) (len count' len' : ℕ) (counted : AreCounted flags blocks len)
      (block : count' + bit (has flags i) ≡ get_or blocks (i / 256) 0 + bit b) (all : len' + bit (has flags i) ≡ len + bit b) where
    j : ℕ
    j = i / 256

    low : i / 256 * 256 ≤ i
    low = omega arith

    high : i < i / 256 * 256 + 256
    high = omega arith

    in_range : i / 256 < length blocks
    in_range = omega (arith, within, counted.covered)

    each_by : (k : ℕ) → k < length blocks → ((eqb k (i / 256) ≡ true) × (k ≡ i / 256)) ⊎ ((eqb k (i / 256) ≡ false) × (k ≢ i / 256)) → (k * 256 + 256 ≤ i) ⊎ (i < k * 256 + 256)
        → get_or (slice_set blocks (i / 256) count') k 0 + below now (k * 256) ≡ below now (k * 256 + 256)
    each_by k inside (inl (t, e)) side =
        let at : get_or (slice_set blocks (i / 256) count') k 0 ≡ count' = ap (λ (z : ℕ). get_or (slice_set blocks (i / 256) count') z 0) e
        ∙ get_or-set_same blocks (i / 256) count' 0 in_range in
        let was : get_or blocks k 0 ≡ get_or blocks (i / 256) 0 = ap (λ (z : ℕ). get_or blocks z 0) e in
        let old = counted.each k inside in
        let first = below_same (k * 256) (omega (arith, e, low)) in
        let last = below_changed (k * 256 + 256) (omega (arith, e, high)) in
        omega (arith, at, was, old, first, last, block)
    each_by k inside (inr (t, apart)) (inl past) =
        omega (arith, get_or-set_other blocks (i / 256) k count' 0 apart, counted.each k inside, below_same (k * 256) (omega (arith, past)), below_same (k * 256 + 256) past)
    each_by k inside (inr (t, apart)) (inr before) =
        omega (
          arith,
          get_or-set_other blocks (i / 256) k count' 0 apart,
          counted.each k inside,
          below_changed (k * 256) (omega (arith, before, apart)),
          below_changed (k * 256 + 256) before,
        )

    pub still_counted : AreCounted now (slice_set blocks (i / 256) count') len'
    still_counted =
        record {
          few = omega (arith, length-set flags i b, counted.few);
          covered = omega (arith, length-set flags i b, length-set blocks (i / 256) count', counted.covered);
          no_more = omega (arith, length-set blocks (i / 256) count', counted.no_more);
          each = λ k inside. each_by k (omega (arith, inside, length-set blocks (i / 256) count')) (eqb_tells k (i / 256)) (side_of k);
          all = omega (arith, counted.all, all, below_changed (length flags) within, ap (below now) (length-set flags i b));
        }
      where
        flip : (k : ℕ) → (i < k * 256 + 256) ⊎ (k * 256 + 256 ≤ i) → (k * 256 + 256 ≤ i) ⊎ (i < k * 256 + 256)
        flip k (inl h) = inr h
        flip k (inr h) = inl h

        side_of : (k : ℕ) → (k * 256 + 256 ≤ i) ⊎ (i < k * 256 + 256)
        side_of k = flip k (cases_lt i (k * 256 + 256))

-- what a block that has a member, or is to get one, counts
pub few_below : (flags : List Bool) (n : ℕ) → below flags n ≤ n
few_below flags n = omega (arith, (count_grows (has flags) 0 n n (omega arith)).1)

-- an empty set is counted
pub none_yet : (n m : ℕ) → n < 2 ^ 32 → n ≤ m * 256 → m ≤ 2 ^ 32 → AreCounted (replicate n false) (replicate {A = ℕ} m 0) 0
none_yet n m few covered no_more =
    record {
      few = omega (arith, length-replicate n false, few);
      covered = omega (arith, length-replicate n false, length-replicate {A = ℕ} m 0, covered);
      no_more = omega (arith, length-replicate {A = ℕ} m 0, no_more);
      each = λ k inside. omega (arith, zeros m k, none_counted (k * 256) n, none_counted (k * 256 + 256) n);
      all = sym (none_counted (length (replicate n false)) n);
    }
  where
    zeros : (m k : ℕ) → get_or {A = ℕ} (replicate m 0) k 0 ≡ 0
    zeros zero k = refl
    zeros (suc m) zero = refl
    zeros (suc m) (suc k) = zeros m k

default_same : {X : Type 0} (xs : List X) (i : ℕ) (a b : X) → i < length xs → get_or xs i a ≡ get_or xs i b
default_same [] i a b within = absurd (omega (arith, within))
default_same (x ∷ xs) zero a b within = refl
default_same (x ∷ xs) (suc i) a b within = default_same xs i a b (omega (arith, within))

was_not : (was member : Bool) → beq was member ≡ false → member ≡ true → was ≡ false
was_not false member e f = refl
was_not true true e f = cc
was_not true false e f = cc

was_so : (was member : Bool) → beq was member ≡ false → member ≡ false → was ≡ true
was_so true member e f = refl
was_so false true e f = cc
was_so false false e f = cc

-- a number that becomes a member, or is taken out
module _ (flags : List Bool) (blocks : List ℕ) (len number : ℕ) (member was : Bool) (x : ℕ) (counted : AreCounted flags blocks len)
    (within : number < length flags) (off : beq was member ≡ false) (is : was ≡ get_or flags number was) (block : x ≡ get_or blocks (number / 256) x) where
  had : has flags number ≡ was
  had = default_same flags number false was within ∙ sym is

  at : number / 256 < length blocks
  at = omega (arith, within, counted.covered)

  first : get_or blocks (number / 256) 0 ≡ x
  first = default_same blocks (number / 256) 0 x at ∙ sym block

  pub few_in_block : x + 1 < 2 ^ 64
  few_in_block = omega (arith, first, counted.each (number / 256) at, few_below flags (number / 256 * 256 + 256), at, counted.no_more)

  pub few_in_all : len + 1 < 2 ^ 64
  few_in_all = omega (arith, counted.all, few_below flags (length flags), counted.few)

  pub put_on : member ≡ true → AreCounted (slice_set flags number member) (slice_set blocks (number / 256) (x + 1)) (len + 1)
  put_on so =
      let w : bit (has flags number) ≡ 0 = ap bit (had ∙ was_not was member off so) in
      let m : bit member ≡ 1 = ap bit so in
      still_counted flags number member within blocks len (x + 1) (len + 1) counted (omega (arith, w, m, first)) (omega (arith, w, m))

  one_was : member ≡ false → bit (has flags number) ≡ 1
  one_was so = ap bit (had ∙ was_so was member off so)

  pub some_in_block : member ≡ false → 1 ≤ x
  some_in_block so =
      let low = below_same flags number member within (number / 256 * 256) (omega arith) in
      let high = below_changed flags number member within (number / 256 * 256 + 256) (omega arith) in
      let grows = count_grows (has (slice_set flags number member)) (number / 256 * 256) 256 (number / 256 * 256 + 256) refl in
      let m : bit member ≡ 0 = ap bit so in
      omega (arith, low, high, grows.0, m, one_was so, first, counted.each (number / 256) at)

  pub some_in_all : member ≡ false → 1 ≤ len
  some_in_all so =
      let high = below_changed flags number member within (length flags) within in
      let m : bit member ≡ 0 = ap bit so in
      omega (arith, high, m, one_was so, counted.all)

  pub put_off : member ≡ false → AreCounted (slice_set flags number member) (slice_set blocks (number / 256) (x - 1)) (len - 1)
  put_off so =
      let m : bit member ≡ 0 = ap bit so in
      still_counted flags number member within blocks len (x - 1) (len - 1) counted (omega (arith, one_was so, m, first, some_in_block so))
      (omega (arith, one_was so, m, some_in_all so))

-- a number that is a member already, or that there is none for
pub same_put : (flags : List Bool) (number : ℕ) (member was : Bool) → beq was member ≡ true → was ≡ get_or flags number was → flags ≡ slice_set flags number member
same_put flags number member was same is =
    sym (ap (slice_set flags number) (sym (equal was member same) ∙ is) ∙ set-get_or flags number was)
  where
    equal : (a b : Bool) → beq a b ≡ true → a ≡ b
    equal true true e = refl
    equal false false e = refl
    equal true false e = cc
    equal false true e = cc

-- a set of a bound that has one flag for each number below it
pub none_at_first : (flags : List Bool) (blocks : List ℕ) (n m : ℕ) → flags ≡ replicate n false → blocks ≡ replicate {A = ℕ} m 0 → n < 2 ^ 32
    → n ≤ m * 256 → m ≤ 2 ^ 32 → AreCounted flags blocks 0
none_at_first flags blocks n m e f few covered no_more =
    subst (λ (xs : List Bool). AreCounted xs blocks 0) (sym e) (subst (λ (ys : List ℕ). AreCounted (replicate n false) ys 0) (sym f) (none_yet n m few covered no_more))

-- the number that is reached, where it is a member and none of those before it is left
pub reached : (flags : List Bool) (i place : ℕ) (b : Bool) → b ≡ true → b ≡ get_or flags i b → i < length flags → place ≡ below flags i → Some i ≡ slice_get (members flags) place
reached flags i place b so is within e =
    sym (nth_at (has flags) i (length flags) place (default_same flags i false b within ∙ sym is ∙ so) within e)

-- one number more
pub one_more : (flags : List Bool) (i : ℕ) (b b' : Bool) → b ≡ b' → b ≡ get_or flags i b → i < length flags → below flags (i + 1) ≡ below flags i + bit b'
one_more flags i b b' same is within =
    count_more (has flags) i (i + 1) refl ∙ ap (λ (x : Bool). below flags i + bit x) (default_same flags i false b within ∙ sym is ∙ same)
