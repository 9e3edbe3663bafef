-- Lists that are made item by item from others.
use Rattle.std.proofs.Common.{◌≡◌, ℕ, zero, suc, ◌+◌, ◌<◌, ◌≤◌, true, replicate, List, [], ◌∷◌, ◌++◌, length, map, take, get_or, slice_index, ap, sym, refl, ◌∙◌, arith, zero-add}
use Rattle.std.specs.Prelude.{All, Vec, sum}
use Rattle.tally.specs.Tallies.{TallyView, are_within, is_tally}
use Rattle.tally.specs.declared.tally_limits.TheConstants.TallyLimits.{AMOUNTS, PAD_BYTES}
use Rattle.workload.specs.Text.{IsWithin, WorkloadView}
use Rattle.run_checkpoint.specs.Tallies.{amounts_of}
use Rattle.std.proofs.Math.ListN.{get_or-map}
use Rattle.std.proofs.lemmas.Simd.{map-map}
use Rattle.std.proofs.lemmas.Bool.Decides.{nat_tests}
use Rattle.std.proofs.lemmas.List.{length-map, length-replicate}
use Rattle.std.specs.List.{range_with_len}
use Rattle.std.proofs.lemmas.List.FromFn.{map-range_with_len_more}

-- one more of a list that is made number by number
list_more : {X : Type 0} (f : ℕ → X) (n : ℕ) → map f (range_with_len 0 (n + 1)) ≡ map f (range_with_len 0 n) ++ f n ∷ []
list_more f n = map-range_with_len_more f 0 n n (zero-add n)

pub one_more : {X : Type 0} (f : ℕ → X) (n : ℕ) (made made' : List X) (x : X) → made' ≡ made ++ x ∷ [] → x ≡ f n → made ≡ map f (range_with_len 0 n)
    → made' ≡ map f (range_with_len 0 (n + 1))
one_more f n made made' x pushed is so_far = pushed ∙ (rw (so_far, is, list_more f n) refl)

-- every row of a workload has an amount for each chare
pub row_inside : {A : Type 0} (rows : List (Vec ℕ A)) (n i : ℕ) → All (λ row. length row ≡ n) (map (λ row. row.items) rows) → i < n → All (λ row. i < length row.items) rows
row_inside {A} rows n i each below k d inside =
    let here : length (get_or (map (λ (row : Vec ℕ A). row.items) rows) k d.items) ≡ n = each k d.items (rw (length-map rows (λ (row : Vec ℕ A). row.items)) inside) in
    let same : get_or (map (λ (row : Vec ℕ A). row.items) rows) k d.items ≡ (get_or rows k d).items = get_or-map (λ (row : Vec ℕ A). row.items) rows k d in
    omega (arith, below, ap length same, here)

-- what is collected from the rows is what is in them
pub collected_rows : {A : Type 0} (rows : List (Vec ℕ A)) (i : ℕ) (amounts : List ℕ) → amounts ≡ map (λ row. slice_index row.items i) rows
    → amounts ≡ map (λ row. slice_index row i) (map (λ row. row.items) rows)
collected_rows {A} rows i amounts is = is ∙ sym (map-map (λ (row : List ℕ). slice_index row i) (λ (row : Vec ℕ A). row.items) rows)

-- the sum of what is in the first rows, and in those of the workload
pub summed : {A : Type 0} (rows : List (Vec ℕ A)) (amounts : List (List ℕ)) (n i k total : ℕ) → total ≡ sum (map (λ row. slice_index row.items i) (take n rows))
    → map (λ row. row.items) rows ≡ amounts → i ≡ k → total ≡ sum (take n (map (λ row. slice_index row k) amounts))
summed {A} rows amounts n i k total is same at =
    is ∙ ap sum (sym (first n rows)) ∙ ap (λ xs. sum (take n (map (λ (row : List ℕ). slice_index row i) xs))) same
    ∙ ap (λ j. sum (take n (map (λ (row : List ℕ). slice_index row j) amounts))) at
  where
    first : (m : ℕ) (xs : List (Vec ℕ A))
        → take m (map (λ (row : List ℕ). slice_index row i) (map (λ (row : Vec ℕ A). row.items) xs)) ≡ map (λ (row : Vec ℕ A). slice_index row.items i) (take m xs)
    first zero xs = refl
    first (suc m) [] = refl
    first (suc m) (x ∷ xs) = ap (λ t. slice_index x.items i ∷ t) (first m xs)

-- a tally by its parts
pub same_tally : (posted : ℕ) (s t : ℕ) (a b p q : List ℕ) → s ≡ t → a ≡ b → p ≡ q
    → ◌≡◌ {A = TallyView} (record { posted = posted; got = posted; sum = s; amounts = a; pad = p }) (record { posted = posted; got = posted; sum = t; amounts = b; pad = q })
same_tally posted s t a b p q one two three = rw (one, two, three) refl

-- the parts of a tally of a workload are within its limits
pub tally_within : (w : WorkloadView) (rounds i total : ℕ) → IsWithin w → rounds ≤ w.rounds
    → is_tally (record { posted = rounds; got = rounds; sum = total; amounts = amounts_of w i; pad = replicate w.pad 0 }) ≡ true
tally_within w rounds i total is few =
    let amounts : length (amounts_of w i) ≡ w.rounds = length-map w.amounts (λ (row : List ℕ). slice_index row i) ∙ is.each_round in
    let pad : length (replicate {A = ℕ} w.pad 0) ≡ w.pad = length-replicate {A = ℕ} w.pad 0 in
    limits rounds (length (amounts_of w i)) (length (replicate {A = ℕ} w.pad 0)) (omega arith) (omega (arith, is.few_rounds)) (omega (arith, is.small_pad))
  where
    limits : (posted amounts pad : ℕ) → posted ≤ amounts → amounts ≤ AMOUNTS → pad ≤ PAD_BYTES → are_within posted amounts pad ≡ true
    limits posted amounts pad some few small = grind (arith, nat_tests)
