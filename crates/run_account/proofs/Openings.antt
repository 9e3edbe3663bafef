-- The account of PEs as a run opens: nothing is posted, and each element is in one place.
use Rattle.std.proofs.Common.{◌≡◌, ℕ, ◌+◌, ◌≤◌, List, [], ◌∷◌, ◌++◌, length, map, sum_by, arith, refl, sym, ◌∙◌, ap}
use Rattle.std.specs.Prelude.{All, slice_get, ◌==◌}
use Rattle.std.specs.List.{flat_map, range_with_len}
use Rattle.std.proofs.lemmas.List.Elements.{All-head, All-tail}
use Rattle.std.proofs.lemmas.List.Sums.{sum_by-cons}
use Rattle.chares.specs.Steps.{Step}
use Rattle.pe_state.specs.Pes.{PeView}
use Rattle.sync_board.specs.declared.strategy.Strategy.TheVariants.{Least}
use Rattle.rts_core.specs.Accounts.{times, is_number, message, AreSent, IsCounted}
use Rattle.rts_core.specs.Ledgers.{IsUnused}
use Rattle.rts_core.specs.Places.{Life, letters, lives, journaled, sends_of, sends}
use Rattle.rts_core.specs.Worlds.{WorldView, opening_pes}
use Rattle.rts_core.proofs.Weights.{Weight, weigh, of_queue, sum_by-flat_map}
use Rattle.rts_core.proofs.Listings.{no_life, no_letter, sum_zero, world_letters, world_lives, world_journals}
use Rattle.rts_core.proofs.LocalAccount.{opening_unused, states_weigh}
use Rattle.rts_core.proofs.LocalBalance.{in_journal}
use Rattle.rts_core.proofs.OpeningWeights.{opened_lives, opened_once, opening_knows, one_at}
use Rattle.rts_core.proofs.RunAccount.{sends_none, unlived}
use Rattle.rts_core.proofs.Sent.{by_message, each_one, length_sum, sends_weight}
use Rattle.run_account.specs.Gathering.{numbers_of}
use Rattle.run_account.specs.RunAccounts.{posted_times, IsRunAccount, left_world}
use Rattle.run_account.proofs.Numbers.{number_in}
use Rattle.run_account.proofs.RunAccounts.{known_is, others_in, zero_all_own}

module _ {C : Type 0} (step : Step C) (pes : ℕ) (chares : List C) (some : 1 ≤ pes) where
  abbrev states : List (PeView C)
  states = opening_pes pes chares

  abbrev pub first : WorldView C (Unit {0})
  first = left_world states []

  no_queue : (g : Weight) (k : Life → ℕ) → sum_by (of_queue g k) [] ≡ 0
  no_queue g k = refl

  first_letters : (g : Weight) → sum_by (weigh g) (letters first) ≡ 0
  first_letters g =
      let a = world_letters g first in
      let b = states_weigh step pes chares some g no_life in
      let c : sum_by no_life (opened_lives 0 chares) ≡ 0 = sum_zero (opened_lives 0 chares) in
      omega (arith, a, b, c, no_queue g no_life)

  first_lives : (k : Life → ℕ) → sum_by k (lives first) ≡ sum_by k (opened_lives 0 chares)
  first_lives k =
      let a = world_lives k first in
      let b = states_weigh step pes chares some no_letter k in
      omega (arith, a, b, no_queue no_letter k)

  first_journals : (g : Weight) → sum_by (weigh g) (journaled first) ≡ 0
  first_journals g =
      let a = world_journals g first in
      let b = states_weigh step pes chares some no_letter (in_journal g) in
      let c = unlived (in_journal g) (λ i. refl) 0 chares in
      omega (arith, a, b, c, no_queue no_letter (in_journal g))

  none_posted : (xs : List (PeView C)) → All (IsUnused step chares) xs → (flat_map numbers_of xs ≡ []) × (sum_by (λ pe. pe.count) xs ≡ 0)
  none_posted [] all = (refl, refl)
  none_posted (x ∷ xs) all =
      let here : x.count ≡ 0 = (All-head (IsUnused step chares) x xs all).no_posts in
      let rest = none_posted xs (All-tail (IsUnused step chares) x xs all) in
      let c = sum_by-cons (λ (pe : PeView C). pe.count) x xs in
      (ap (λ (v : ℕ). map (λ k. (x.me, k)) (range_with_len 0 v) ++ flat_map numbers_of xs) here ∙ rest.0, omega (arith, here, rest.1, c))

  once_none : (id : ℕ × ℕ) → times (λ l. is_number id l.id) (letters first) + times (λ l. is_number id l.id) (journaled first) ≡ posted_times id states
  once_none id =
      let g : Weight = λ n to body. number_in id n in
      let a : times (λ l. is_number id l.id) (letters first) ≡ 0 = first_letters g in
      let b : times (λ l. is_number id l.id) (journaled first) ≡ 0 = first_journals g in
      let c = opening_knows (Unit {0}) pes chares Least some id.0 id.1 (slice_get states id.0) refl in
      omega (arith, a, b, c, known_is id.1 (slice_get states id.0))

  sent_none : AreSent step chares first
  sent_none weight =
      let k : Life → ℕ = sends_weight step chares weight in
      let a : sum_by weight (sends step chares first) ≡ sum_by k (lives first) = sum_by-flat_map weight (sends_of step chares) (lives first) in
      let c = unlived k (sends_none (Unit {0}) step pes chares Least some weight) 0 chares in
      let d : sum_by (λ l. weight (message l)) (letters first) ≡ 0 = first_letters (by_message weight) in
      let e : sum_by (λ l. weight (message l)) (journaled first) ≡ 0 = first_journals (by_message weight) in
      omega (arith, a, first_lives k, c, d, e)

  counted_none : IsCounted first
  counted_none =
      let a : length (letters first) ≡ 0 = sym (length_sum (letters first)) ∙ first_letters each_one in
      let b : length (journaled first) ≡ 0 = sym (length_sum (journaled first)) ∙ first_journals each_one in
      omega (arith, a, b, (none_posted states (opening_unused step pes chares some)).1)

  pub opening_account : IsRunAccount step chares first
  opening_account = record {
    once = once_none;
    posts = [];
    numbered = sym (none_posted states (opening_unused step pes chares some)).0;
    whole = λ g. let a = first_letters g in let b = first_journals g in let z : sum_by (weigh g) [] ≡ 0 = refl in omega (arith, a, b, z);
    own = zero_all_own (lives first) (first_lives others_in ∙ unlived others_in (λ e. refl) 0 chares);
    stands = λ e lt.
        let a : times (λ x. x.0 == e) (lives first) ≡ sum_by (λ (x : Life). one_at e x.0) (opened_lives 0 chares) = first_lives (λ x. one_at e x.0) in
        let o : sum_by (λ (x : Life). one_at e x.0) (opened_lives 0 chares) ≡ 1 = opened_once e 0 chares (omega arith) (omega (arith, lt)) in
        a ∙ o;
    counted = counted_none;
    sent = sent_none;
  }
