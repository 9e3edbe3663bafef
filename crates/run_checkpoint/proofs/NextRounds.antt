-- A chare of a workload goes through one more round by its own steps.
use Rattle.std.proofs.Common.{◌≡◌, inl, inr, ℕ, ◌+◌, ◌*◌, ◌%◌, ◌<◌, ◌≤◌, min, true, nat_lt, List, [], ◌∷◌, length, take, get_or, slice_index, ap, sym, subst, refl, ◌∙◌, arith}
use Rattle.std.proofs.lemmas.Bool.{cases_lt}
use Rattle.std.specs.Prelude.{All, sum}
use Rattle.std.specs.Int.{w32, to_be_bytes}
use Rattle.std.proofs.Math.Nat.{mod-eq_of_lt, mod_self}
use Rattle.std.proofs.lemmas.Bool.Decides.{nat_tests}
use Rattle.std.proofs.lemmas.List.{get_or-map, length-map}
use Rattle.std.proofs.lemmas.List.Sums.{sum_by-le, sum_by_more, sum_by_more_le}
use Rattle.std.proofs.lemmas.Nat.{from_be_bytes-to_be_bytes_4}
use Rattle.tally.specs.Tallies.{TallyView, amount_in, on_letter, on_resume}
use Rattle.workload.specs.Text.{IsWithin, WorkloadView, most_amount}
use Rattle.run_checkpoint.specs.Tallies.{TakesRound, amounts_of, neighbor, sender, tally_after}

-- the sender of a chare is one of them
sender_inside : (n i : ℕ) → i < n → sender n i < n
sender_inside n i inside = grind (arith, nat_tests)

-- the neighbor of a chare gets from it
sender_of_neighbor : (n i : ℕ) → i < n → sender n (neighbor n i) ≡ i
sender_of_neighbor n i inside = elim (cases_lt (i + 1) n) [
  | inl more ↦ rw (mod-eq_of_lt more) (grind (arith, nat_tests))
  | inr rest ↦
      let is : i + 1 ≡ n = omega (arith, inside, rest) in
      rw (ap (λ k. k % n) is ∙ mod_self n) (omega (arith, is))
]

-- a chare has one amount for each round
each_round : (w : WorkloadView) (i : ℕ) → IsWithin w → length (amounts_of w i) ≡ w.rounds
each_round w i is = length-map w.amounts (λ (row : List ℕ). slice_index row i) ∙ is.each_round

-- and none is past the largest amount
small : (w : WorkloadView) (i : ℕ) → IsWithin w → i < w.chares → All (λ a. a ≤ most_amount) (amounts_of w i)
small w i is inside k d below =
    let at = λ (row : List ℕ). slice_index row i in
    let here : k < length w.amounts = omega (arith, below, length-map w.amounts at) in
    let wide : i < length (get_or w.amounts k []) = omega (arith, inside, is.each_chare k [] here) in
    subst (λ a. a ≤ most_amount) (sym (get_or-map at w.amounts k [] d here)) (is.small k [] here i 0 wide)

-- the tally gets an amount
gets : (t : TallyView) (a : ℕ) → a ≤ most_amount → t.got < 4294967295 → t.sum + a ≤ 18446744073709551615
    → (on_letter t (to_be_bytes w32 a)).state ≡ record t { got = t.got + 1; sum = t.sum + a }
gets t a little few fits =
    let is : amount_in (to_be_bytes w32 a) ≡ a = from_be_bytes-to_be_bytes_4 a (omega (arith, little)) in
    let got : min 4294967295 (t.got + 1) ≡ t.got + 1 = omega (arith, few) in
    let all : min 18446744073709551615 (t.sum + a) ≡ t.sum + a = omega (arith, fits) in
    rw (is, got, all) refl

-- it posts an amount that is left
posts : (t : TallyView) (me n : ℕ) → t.posted < length t.amounts
    → ((on_resume t me n).state ≡ record t { posted = t.posted + 1 }) × ((on_resume t me n).sends ≡ (neighbor n me, to_be_bytes w32 (slice_index t.amounts t.posted)) ∷ [])
posts t me n left =
    let is : nat_lt t.posted (length t.amounts) ≡ true = grind (arith, nat_tests, left) in
    (rw is refl, rw is refl)

pub takes_round : (w : WorkloadView) (rounds i : ℕ) → IsWithin w → rounds < w.rounds → i < w.chares → TakesRound w rounds i
takes_round w rounds i is left inside =
    let from = sender w.chares i in
    let there : from < w.chares = sender_inside w.chares i inside in
    let all = amounts_of w from in
    let few : rounds < length all = omega (arith, left, each_round w from is) in
    let a = slice_index all rounds in
    let little : a ≤ most_amount = small w from is there rounds 0 few in
    let more : sum (take (rounds + 1) all) ≡ sum (take rounds all) + a = sum_by_more (λ x. x) all rounds 0 few in
    let whole : sum (take rounds all) + a ≤ sum all = sum_by_more_le (λ x. x) all rounds 0 few in
    let most : sum all ≤ length all * most_amount = sum_by-le (λ x. x) most_amount all (small w from is there) in
    let fits : sum (take rounds all) + a ≤ 18446744073709551615 = omega (arith, whole, most, each_round w from is, is.few_rounds) in
    let low : rounds < 4294967295 = omega (arith, left, is.few_rounds) in
    let mine : rounds < length (amounts_of w i) = omega (arith, left, each_round w i is) in
    let t = tally_after w rounds i in
    let first = posts t i w.chares mine in
    let second = gets t a little low fits in
    record {
      sends = first.1 ∙ ap (λ k. (neighbor w.chares i, to_be_bytes w32 (slice_index (amounts_of w k) rounds)) ∷ []) (sym (sender_of_neighbor w.chares i inside));
      resumed_first = rw first.0 (gets (record t { posted = rounds + 1 }) a little low fits ∙ rw more refl);
      got_first = rw second ((posts (record t { got = rounds + 1; sum = sum (take rounds all) + a }) i w.chares mine).0 ∙ rw more refl);
    }
