-- What a PE has received and given away, and what went through its seat.
use Rattle.std.proofs.Common.{◌≡◌, ℕ, zero, suc, ◌+◌, ◌<◌, List, [], ◌∷◌, ◌++◌, length, sum_by, arith, refl, ◌∙◌, length-set}
use Rattle.std.specs.Prelude.{slice_set, slice_index_or}
use Rattle.std.proofs.lemmas.List.{length-map}
use Rattle.std.proofs.lemmas.List.Sums.{sum_by-cons, sum_by-append, sum_by_push}
use Rattle.chares.specs.Letters.{LetterView}
use Rattle.pe_state.specs.Pes.{Parcel}
use Rattle.pe_queues.specs.Seats.{PostView, SeatView, pes, puts_at, takes_at, new_seat, after_put, after_take, append_each}
use Rattle.rts_core.specs.Ledgers.{Ledger, no_ledger, entered_in}
use Rattle.pe_worker.specs.Seated.{sum_each, Matches}

-- one more value in one of the lists
pub each_more : {X : Type 0} (h : X → ℕ) (xss : List (List X)) (q : ℕ) (x : X) → q < length xss
    → sum_each h (slice_set xss q (slice_index_or xss q [] ++ x ∷ [])) ≡ sum_each h xss + h x
each_more h [] q x lt = absurd (omega arith)
each_more h (xs ∷ xss) zero x lt =
    let a : sum_each h ((xs ++ x ∷ []) ∷ xss) ≡ sum_by h (xs ++ x ∷ []) + sum_each h xss = sum_by-cons (sum_by h) (xs ++ x ∷ []) xss in
    let b : sum_each h (xs ∷ xss) ≡ sum_by h xs + sum_each h xss = sum_by-cons (sum_by h) xs xss in
    let c : sum_by h (xs ++ x ∷ []) ≡ sum_by h xs + h x = sum_by_push h xs x in
    omega (arith, a, b, c)
each_more {X} h (xs ∷ xss) (suc q) x lt =
    let next : List (List X) = slice_set xss q (slice_index_or xss q [] ++ x ∷ []) in
    let a : sum_each h (xs ∷ next) ≡ sum_by h xs + sum_each h next = sum_by-cons (sum_by h) xs next in
    let b : sum_each h (xs ∷ xss) ≡ sum_by h xs + sum_each h xss = sum_by-cons (sum_by h) xs xss in
    let c : sum_each h next ≡ sum_each h xss + h x = each_more h xss q x (omega (arith, lt)) in
    omega (arith, a, b, c)

-- two lists of lists, one behind the other
pub each_both : {X : Type 0} (h : X → ℕ) (xss yss : List (List X)) → length xss ≡ length yss → sum_each h (append_each xss yss) ≡ sum_each h xss + sum_each h yss
each_both h [] [] same = refl
each_both h [] (ys ∷ yss) same = absurd (omega (arith, same))
each_both h (xs ∷ xss) [] same = absurd (omega (arith, same))
each_both h (xs ∷ xss) (ys ∷ yss) same =
    let a : sum_each h ((xs ++ ys) ∷ append_each xss yss) ≡ sum_by h (xs ++ ys) + sum_each h (append_each xss yss) = sum_by-cons (sum_by h) (xs ++ ys) (append_each xss yss) in
    let b : sum_each h (xs ∷ xss) ≡ sum_by h xs + sum_each h xss = sum_by-cons (sum_by h) xs xss in
    let c : sum_each h (ys ∷ yss) ≡ sum_by h ys + sum_each h yss = sum_by-cons (sum_by h) ys yss in
    let d : sum_by h (xs ++ ys) ≡ sum_by h xs + sum_by h ys = sum_by-append h xs ys in
    let e : sum_each h (append_each xss yss) ≡ sum_each h xss + sum_each h yss = each_both h xss yss (omega (arith, same)) in
    omega (arith, a, b, c, d, e)

pub each_length : {X : Type 0} (xss yss : List (List X)) → length (append_each xss yss) ≡ length xss
each_length [] yss = refl
each_length (xs ∷ xss) [] = refl
each_length (xs ∷ xss) (ys ∷ yss) = omega (arith, each_length xss yss)

-- a call that receives and gives away nothing
pub matches_still : (ledger : Ledger) (seat : SeatView Parcel) (new : List LetterView) → Matches ledger seat → Matches (entered_in ledger [] [] new) seat
matches_still ledger seat new m =
    record {
      all_puts = m.all_puts;
      all_takes = m.all_takes;
      matched = λ h.
          let a = m.matched h in
          let b = sum_by-append h ledger.came [] in
          let c = sum_by-append h ledger.gone [] in
          let d : sum_by h [] ≡ 0 = refl in
          omega (arith, a, b, c, d);
    }

pub matches_take : (ledger : Ledger) (seat : SeatView Parcel) (q : ℕ) (parcel : Parcel) (new : List LetterView) → q < pes seat.post
    → Matches ledger seat → Matches (entered_in ledger (parcel ∷ []) [] new) (after_take seat q parcel)
matches_take ledger seat q parcel new lt m =
    record {
      all_puts = m.all_puts;
      all_takes = length-set {A = List Parcel} seat.takes q (takes_at seat q ++ parcel ∷ []) ∙ m.all_takes;
      matched = λ h.
          let a = m.matched h in
          let b : sum_by h (ledger.came ++ parcel ∷ []) ≡ sum_by h ledger.came + h parcel = sum_by_push h ledger.came parcel in
          let c = sum_by-append h ledger.gone [] in
          let d = each_more h seat.takes q parcel (omega (arith, lt, m.all_takes)) in
          let e : sum_by h [] ≡ 0 = refl in
          omega (arith, a, b, c, d, e);
    }

pub matches_put : (ledger : Ledger) (seat : SeatView Parcel) (q : ℕ) (parcel : Parcel) (new : List LetterView) → q < pes seat.post
    → Matches ledger seat → Matches (entered_in ledger [] (parcel ∷ []) new) (after_put seat q parcel)
matches_put ledger seat q parcel new lt m =
    record {
      all_puts = length-set {A = List Parcel} seat.puts q (puts_at seat q ++ parcel ∷ []) ∙ m.all_puts;
      all_takes = m.all_takes;
      matched = λ h.
          let a = m.matched h in
          let b : sum_by h (ledger.gone ++ parcel ∷ []) ≡ sum_by h ledger.gone + h parcel = sum_by_push h ledger.gone parcel in
          let c = sum_by-append h ledger.came [] in
          let d = each_more h seat.puts q parcel (omega (arith, lt, m.all_puts)) in
          let e : sum_by h [] ≡ 0 = refl in
          omega (arith, a, b, c, d, e);
    }

-- a parcel that was given away and came back at once
pub matches_back : (ledger : Ledger) (seat : SeatView Parcel) (parcel : Parcel) (new newer : List LetterView) → Matches ledger seat
    → Matches (entered_in (entered_in ledger [] (parcel ∷ []) new) (parcel ∷ []) [] newer) seat
matches_back ledger seat parcel new newer m =
    record {
      all_puts = m.all_puts;
      all_takes = m.all_takes;
      matched = λ h.
          let a = m.matched h in
          let b : sum_by h ((ledger.came ++ []) ++ parcel ∷ []) ≡ sum_by h (ledger.came ++ []) + h parcel = sum_by_push h (ledger.came ++ []) parcel in
          let c : sum_by h ((ledger.gone ++ parcel ∷ []) ++ []) ≡ sum_by h (ledger.gone ++ parcel ∷ []) + sum_by h [] = sum_by-append h (ledger.gone ++ parcel ∷ []) [] in
          let d : sum_by h (ledger.gone ++ parcel ∷ []) ≡ sum_by h ledger.gone + h parcel = sum_by_push h ledger.gone parcel in
          let e = sum_by-append h ledger.came [] in
          let z : sum_by h [] ≡ 0 = refl in
          omega (arith, a, b, c, d, e, z);
    }

-- a seat through which nothing has gone
pub matches_new : (post : PostView) (seats : ℕ) → Matches no_ledger (new_seat post seats)
matches_new post seats =
    record {
      all_puts = length-map post.queues (λ _. []);
      all_takes = length-map post.queues (λ _. []);
      matched = λ weight. refl;
    }
