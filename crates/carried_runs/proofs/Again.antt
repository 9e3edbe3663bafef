-- What holds of the PEs of an outcome, as a run that is carried on needs it.
use Rattle.std.proofs.Common.{◌≡◌, ℕ, zero, suc, ◌+◌, ◌<◌, List, [], ◌∷◌, ◌++◌, length, map, take, drop, sum_by, arith, refl, sym, ◌∙◌, ap, subst}
use Rattle.std.specs.Prelude.{All}
use Rattle.std.specs.List.{range_with_len}
use Rattle.std.proofs.lemmas.List.Elements.{All-nil, All-cons, All-head, All-tail}
use Rattle.chare_index.specs.declared.limits.TheConstants.Limits.{SEATS}
use Rattle.chares.specs.Steps.{Step}
use Rattle.pe_queues.specs.Seats.{pes}
use Rattle.pe_state.specs.Pes.{PeView, Parcel}
use Rattle.pe_state.specs.Reopening.{reopened}
use Rattle.pe_worker.specs.Seated.{Beginning}
use Rattle.run_account.proofs.Passing.{counted_by}
use Rattle.run_account.proofs.Reopened.{all_in_order, as_many, reopened_account}
use Rattle.run_account.specs.Reopenings.{all_reopened}
use Rattle.run_account.specs.RunAccounts.{IsRunAccount, left_world}
use Rattle.rts_run.specs.Openings.{IsBeginning}

-- what holds of each image
pub all_before : {X : Type 0} (P : X → Type 0) {Y : Type 0} (f : Y → X) (ys : List Y) → All P (map f ys) → All (λ y. P (f y)) ys
all_before P f [] h = All-nil (λ y. P (f y))
all_before P f (y ∷ ys) h = All-cons (λ z. P (f z)) y ys (All-head P (f y) (map f ys) h) (all_before P f ys (All-tail P (f y) (map f ys) h))

-- numbers in order are below the end of their range
all_below : {X : Type 0} (f : X → ℕ) (a n : ℕ) (xs : List X) → map f xs ≡ range_with_len a n → All (λ x. f x < a + n) xs
all_below f a n [] h = All-nil (λ x. f x < a + n)
all_below f a zero (x ∷ xs) h = absurd (cc)
all_below {X} f a (suc n) (x ∷ xs) h =
    let here : f x ≡ a = cc in
    let rest : map f xs ≡ range_with_len (a + 1) n = cc in
    let e : (a + 1) + n ≡ a + suc n = omega arith in
    All-cons (λ y. f y < a + suc n) x xs (omega (arith, here)) (subst (λ (v : ℕ). All (λ (y : X). f y < v) xs) e (all_below f (a + 1) n xs rest))

pub all_members : {X : Type 0} (f : X → ℕ) (n : ℕ) (xs : List X) → map f xs ≡ range_with_len 0 n → All (λ x. f x < n) xs
all_members {X} f n xs is =
    let e : 0 + n ≡ n = omega arith in
    subst (λ (v : ℕ). All (λ (x : X). f x < v) xs) e (all_below f 0 n xs is)

-- a run begins with the PEs that an earlier run left, opened again
pub begins_again : {C : Type 0} (step : Step C) (opened : List C) (count : ℕ) (ends : List (PeView C)) (left : List (List Parcel)) (run : Beginning C)
    → run.starts ≡ all_reopened count ends left → map (λ pe. pe.me) ends ≡ range_with_len 0 count → length left ≡ count → IsRunAccount step opened (left_world ends left)
    → pes run.post ≡ count → length run.shares ≡ count → sum_by (λ n. n) run.shares ≡ SEATS → IsBeginning step count opened run
begins_again {C} step opened count ends left run starts order queues account served shared seats =
    let n : length ends ≡ count = counted_by (λ pe. pe.me) 0 count ends order in
    let same : length ends ≡ length left = omega (arith, n, queues) in
    let all : length run.starts ≡ count = ap length starts ∙ (as_many count ends left same ∙ n) in
    record {
      account = subst (λ (s : List (PeView C)). IsRunAccount step opened (left_world s [])) (sym starts) (reopened_account step opened count ends left same account);
      in_order = ap (map (λ (pe : PeView C). pe.me)) starts ∙ (all_in_order count ends left same ∙ (order ∙ ap (range_with_len 0) (sym all)));
      counted = all;
      served = served;
      shared = shared;
      all_seats = seats;
    }

nothing_more : {X : Type 0} (xs : List X) → xs ++ [] ≡ xs
nothing_more [] = refl
nothing_more (x ∷ xs) = ap (λ (v : List _). x ∷ v) (nothing_more xs)

-- a part that was taken out, and put back as long as it was, is all of it
pub all_back : {X : Type 0} (xs ys : List X) (n : ℕ) → length xs ≡ length ys → n ≡ length ys → take n (xs ++ drop (length xs) ys) ≡ xs
all_back [] [] n same is = rw is refl
all_back [] (y ∷ ys) n same is = absurd (omega (arith, same))
all_back (x ∷ xs) [] n same is = absurd (omega (arith, same))
all_back (x ∷ xs) (y ∷ ys) zero same is = absurd (omega (arith, is))
all_back (x ∷ xs) (y ∷ ys) (suc n) same is = ap (λ (v : List _). x ∷ v) (all_back xs ys n (omega (arith, same)) (omega (arith, is)))

module _ {C : Type 0} (count : ℕ) where
  abbrev whole : List (PeView C) → List (List Parcel) → List (PeView C)
  whole ends left = all_reopened count ends left

  -- no PE is opened again yet
  pub reopens_none : (states ends all : List (PeView C)) (left queues : List (List Parcel)) → states ≡ [] → ends ≡ all → left ≡ queues
      → states ++ whole ends left ≡ whole all queues
  reopens_none states ends all left queues s e l =
      ap (λ (v : List (PeView C)). v ++ whole ends left) s ∙ (ap (λ (v : List (PeView C)). whole v left) e ∙ ap (whole all) l)

  joined_one : (xs ys : List (PeView C)) (x : PeView C) → (xs ++ x ∷ []) ++ ys ≡ xs ++ x ∷ ys
  joined_one [] ys x = refl
  joined_one (z ∷ xs) ys x = ap (λ (v : List (PeView C)). z ∷ v) (joined_one xs ys x)

  -- one more PE is opened again
  pub reopens_more : (states more ends others all : List (PeView C)) (left queues : List (List Parcel)) (pe opened : PeView C) (queue : List Parcel)
      → more ≡ states ++ opened ∷ [] → opened ≡ reopened count pe queue → ends ≡ pe ∷ others → left ≡ queue ∷ queues
      → states ++ whole ends left ≡ all → more ++ whole others queues ≡ all
  reopens_more states more ends others all left queues pe opened queue m o e l is =
      let a : more ++ whole others queues ≡ (states ++ opened ∷ []) ++ whole others queues = ap (λ (v : List (PeView C)). v ++ whole others queues) m in
      let b = joined_one states (whole others queues) opened in
      let c : states ++ opened ∷ whole others queues ≡ states ++ reopened count pe queue ∷ whole others queues = ap (λ (v : PeView C). states ++ v ∷ whole others queues) o in
      let d : states ++ whole (pe ∷ others) (queue ∷ queues) ≡ states
      ++ whole ends left = ap (λ (v : List (PeView C)). states ++ whole v (queue ∷ queues)) (sym e)
      ∙ ap (λ (v : List (List Parcel)). states ++ whole ends v) (sym l) in
      a ∙ (b ∙ (c ∙ (d ∙ is)))

  -- all are
  pub reopens_all : (states ends all : List (PeView C)) (left : List (List Parcel)) → ends ≡ [] → states ++ whole ends left ≡ all → states ≡ all
  reopens_all states ends all left e is =
      let a : states ++ whole [] left ≡ states ++ whole ends left = ap (λ (v : List (PeView C)). states ++ whole v left) (sym e) in
      sym (nothing_more states) ∙ (a ∙ is)
