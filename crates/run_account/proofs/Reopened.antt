-- The account of what a run left is that of its PEs as they open again, with what their queues still held.
use Rattle.std.proofs.Common.{◌≡◌, ℕ, zero, suc, ◌+◌, List, [], ◌∷◌, ◌++◌, length, map, Option, Some, None, sum_by, arith, refl, sym, ◌∙◌, ap, nat_lt}
use Rattle.std.specs.Prelude.{slice_get, ◌==◌, if◌then◌else◌}
use Rattle.std.specs.List.{flat_map}
use Rattle.std.specs.Option.{option_map, option_map_or}
use Rattle.std.proofs.lemmas.List.Sums.{sum_by-cons, sum_by-append}
use Rattle.chares.specs.Steps.{Step}
use Rattle.pe_state.specs.Pes.{PeView, Parcel, Item}
use Rattle.pe_state.specs.Reopening.{readdressed, parcel_at, reopened}
use Rattle.rts_core.specs.Accounts.{times, is_number, message, AreSent, IsCounted}
use Rattle.rts_core.specs.Places.{Life, letters, lives, journaled, letters_of_life, sends_of, sends}
use Rattle.rts_core.specs.Worlds.{WorldView}
use Rattle.rts_core.proofs.Weights.{Weight, weigh, of_hand, of_item, of_parcel, of_pe, of_queue, sum_by-flat_map, sum_by-map}
use Rattle.rts_core.proofs.Listings.{no_life, no_letter, world_letters, world_lives}
use Rattle.rts_core.proofs.LocalBalance.{in_journal}
use Rattle.rts_core.proofs.Sent.{by_message, each_one, length_sum, sends_weight}
use Rattle.run_account.specs.Gathering.{numbers_of}
use Rattle.run_account.specs.Reopenings.{all_reopened}
use Rattle.run_account.specs.RunAccounts.{posted_times, IsRunAccount, left_world}
use Rattle.run_account.proofs.Numbers.{number_in}
use Rattle.run_account.proofs.RunAccounts.{all_own_zero, others_in, zero_all_own}

module _ (pes me : ℕ) (g : Weight) (k : Life → ℕ) where
  hand_weighs : (hand : Option Item) → of_hand g k (option_map (readdressed pes me) hand) ≡ of_hand g k hand
  hand_weighs None = refl
  hand_weighs (Some x) = refl

  outbox_weighs : (outbox : List Item) (left : List Parcel)
      → sum_by (of_item g k) (map (readdressed pes me) outbox ++ map (parcel_at me) left) ≡ sum_by (of_item g k) outbox + sum_by (of_parcel g k) left
  outbox_weighs outbox left =
      let a = sum_by-append (of_item g k) (map (readdressed pes me) outbox) (map (parcel_at me) left) in
      let b : sum_by (of_item g k) (map (readdressed pes me) outbox) ≡ sum_by (of_item g k) outbox = sum_by-map (of_item g k) (readdressed pes me) outbox in
      let c : sum_by (of_item g k) (map (parcel_at me) left) ≡ sum_by (of_parcel g k) left = sum_by-map (of_item g k) (parcel_at me) left in
      omega (arith, a, b, c)

module _ {C : Type 0} (pes : ℕ) where
  -- a PE that opens again weighs what it did, and what its queue held
  reopened_weighs : (g : Weight) (k : Life → ℕ) (pe : PeView C) (left : List Parcel) → of_pe g k (reopened pes pe left) ≡ of_pe g k pe + of_queue g k left
  reopened_weighs g k pe left =
      let a = hand_weighs pes pe.me g k pe.hand in
      let b = outbox_weighs pes pe.me g k pe.outbox left in
      omega (arith, a, b)

  all_weigh : (g : Weight) (k : Life → ℕ) (ends : List (PeView C)) (left : List (List Parcel)) → length ends ≡ length left
      → sum_by (λ (pe : PeView C). of_pe g k pe) (all_reopened pes ends left) ≡ sum_by (λ (pe : PeView C). of_pe g k pe) ends + sum_by (of_queue g k) left
  all_weigh g k [] [] same = refl
  all_weigh g k [] (queue ∷ left) same = absurd (omega (arith, same))
  all_weigh g k (pe ∷ ends) [] same = absurd (omega (arith, same))
  all_weigh g k (pe ∷ ends) (queue ∷ left) same =
      let a = sum_by-cons (λ (x : PeView C). of_pe g k x) (reopened pes pe queue) (all_reopened pes ends left) in
      let b = sum_by-cons (λ (x : PeView C). of_pe g k x) pe ends in
      let c = sum_by-cons (of_queue g k) queue left in
      omega (arith, a, b, c, reopened_weighs g k pe queue, all_weigh g k ends left (omega (arith, same)))

  -- what looks at their numbers and counts alone does not change
  all_numbers : (ends : List (PeView C)) (left : List (List Parcel)) → length ends ≡ length left → flat_map numbers_of (all_reopened pes ends left) ≡ flat_map numbers_of ends
  all_numbers [] [] same = refl
  all_numbers [] (queue ∷ left) same = absurd (omega (arith, same))
  all_numbers (pe ∷ ends) [] same = absurd (omega (arith, same))
  all_numbers (pe ∷ ends) (queue ∷ left) same = ap (λ v. numbers_of pe ++ v) (all_numbers ends left (omega (arith, same)))

  all_counts : (ends : List (PeView C)) (left : List (List Parcel)) → length ends ≡ length left
      → sum_by (λ pe. pe.count) (all_reopened pes ends left) ≡ sum_by (λ pe. pe.count) ends
  all_counts [] [] same = refl
  all_counts [] (queue ∷ left) same = absurd (omega (arith, same))
  all_counts (pe ∷ ends) [] same = absurd (omega (arith, same))
  all_counts (pe ∷ ends) (queue ∷ left) same =
      let a = sum_by-cons (λ (x : PeView C). x.count) (reopened pes pe queue) (all_reopened pes ends left) in
      let b = sum_by-cons (λ (x : PeView C). x.count) pe ends in
      omega (arith, a, b, all_counts ends left (omega (arith, same)))

  pub count_at : (f : ℕ → ℕ) (q : ℕ) (ends : List (PeView C)) (left : List (List Parcel)) → length ends ≡ length left
      → option_map_or (λ (pe : PeView C). f pe.count) (slice_get (all_reopened pes ends left) q) 0 ≡ option_map_or (λ (pe : PeView C). f pe.count) (slice_get ends q) 0
  count_at f q [] [] same = refl
  count_at f q [] (queue ∷ left) same = absurd (omega (arith, same))
  count_at f q (pe ∷ ends) [] same = absurd (omega (arith, same))
  count_at f zero (pe ∷ ends) (queue ∷ left) same = refl
  count_at f (suc q) (pe ∷ ends) (queue ∷ left) same = count_at f q ends left (omega (arith, same))

  -- in order, as they ended
  pub all_in_order : (ends : List (PeView C)) (left : List (List Parcel)) → length ends ≡ length left → map (λ pe. pe.me) (all_reopened pes ends left) ≡ map (λ pe. pe.me) ends
  all_in_order [] [] same = refl
  all_in_order [] (queue ∷ left) same = absurd (omega (arith, same))
  all_in_order (pe ∷ ends) [] same = absurd (omega (arith, same))
  all_in_order (pe ∷ ends) (queue ∷ left) same = ap (λ (v : List ℕ). pe.me ∷ v) (all_in_order ends left (omega (arith, same)))

  pub as_many : (ends : List (PeView C)) (left : List (List Parcel)) → length ends ≡ length left → length (all_reopened pes ends left) ≡ length ends
  as_many [] [] same = refl
  as_many [] (queue ∷ left) same = absurd (omega (arith, same))
  as_many (pe ∷ ends) [] same = absurd (omega (arith, same))
  as_many (pe ∷ ends) (queue ∷ left) same = ap suc (as_many ends left (omega (arith, same)))

module _ {C : Type 0} (step : Step C) (opened : List C) (pes : ℕ) (ends : List (PeView C)) (left : List (List Parcel)) (same : length ends ≡ length left) where
  abbrev before : WorldView C (Unit {0})
  before = left_world ends left

  abbrev pub again : WorldView C (Unit {0})
  again = left_world (all_reopened pes ends left) []

  letters_same : (g : Weight) → sum_by (weigh g) (letters again) ≡ sum_by (weigh g) (letters before)
  letters_same g =
      let a : sum_by (weigh g) (letters again) ≡ sum_by (λ (pe : PeView C). of_pe g no_life pe) (all_reopened pes ends left) + sum_by
      (of_queue g no_life) [] = world_letters g again in
      let b : sum_by (weigh g) (letters before) ≡ sum_by (λ (pe : PeView C). of_pe g no_life pe) ends + sum_by (of_queue g no_life) left = world_letters g before in
      let z : sum_by (of_queue g no_life) [] ≡ 0 = refl in
      omega (arith, a, b, z, all_weigh pes g no_life ends left same)

  lives_same : (k : Life → ℕ) → sum_by k (lives again) ≡ sum_by k (lives before)
  lives_same k =
      let a : sum_by k (lives again) ≡ sum_by (λ (pe : PeView C). of_pe no_letter k pe) (all_reopened pes ends left) + sum_by (of_queue no_letter k) [] = world_lives k again in
      let b : sum_by k (lives before) ≡ sum_by (λ (pe : PeView C). of_pe no_letter k pe) ends + sum_by (of_queue no_letter k) left = world_lives k before in
      let z : sum_by (of_queue no_letter k) [] ≡ 0 = refl in
      omega (arith, a, b, z, all_weigh pes no_letter k ends left same)

  journals_same : (g : Weight) → sum_by (weigh g) (journaled again) ≡ sum_by (weigh g) (journaled before)
  journals_same g =
      let a : sum_by (weigh g) (journaled again) ≡ sum_by (in_journal g) (lives again) = sum_by-flat_map (weigh g) letters_of_life (lives again) in
      let b : sum_by (weigh g) (journaled before) ≡ sum_by (in_journal g) (lives before) = sum_by-flat_map (weigh g) letters_of_life (lives before) in
      omega (arith, a, b, lives_same (in_journal g))

  sent_same : AreSent step opened before → AreSent step opened again
  sent_same is weight =
      let k : Life → ℕ = sends_weight step opened weight in
      let a : sum_by weight (sends step opened again) ≡ sum_by k (lives again) = sum_by-flat_map weight (sends_of step opened) (lives again) in
      let b : sum_by weight (sends step opened before) ≡ sum_by k (lives before) = sum_by-flat_map weight (sends_of step opened) (lives before) in
      let c : sum_by (λ l. weight (message l)) (letters again) ≡ sum_by (λ l. weight (message l)) (letters before) = letters_same (by_message weight) in
      let d : sum_by (λ l. weight (message l)) (journaled again) ≡ sum_by (λ l. weight (message l)) (journaled before) = journals_same (by_message weight) in
      omega (arith, a, b, c, d, lives_same k, is weight)

  counted_same : IsCounted before → IsCounted again
  counted_same is =
      let a : length (letters again) ≡ length (letters before) = sym (length_sum (letters again)) ∙ (letters_same each_one ∙ length_sum (letters before)) in
      let b : length (journaled again) ≡ length (journaled before) = sym (length_sum (journaled again)) ∙ (journals_same each_one ∙ length_sum (journaled before)) in
      omega (arith, a, b, is, all_counts pes ends left same)

  once_same : (id : ℕ × ℕ) → times (λ l. is_number id l.id) (letters before) + times (λ l. is_number id l.id) (journaled before) ≡ posted_times id ends
      → times (λ l. is_number id l.id) (letters again) + times (λ l. is_number id l.id) (journaled again) ≡ posted_times id (all_reopened pes ends left)
  once_same id is =
      let g : Weight = λ n to body. number_in id n in
      let a : times (λ l. is_number id l.id) (letters again) ≡ times (λ l. is_number id l.id) (letters before) = letters_same g in
      let b : times (λ l. is_number id l.id) (journaled again) ≡ times (λ l. is_number id l.id) (journaled before) = journals_same g in
      let c : posted_times id (all_reopened pes ends left) ≡ posted_times id ends = count_at pes (λ n. if nat_lt id.1 n then 1 else 0) id.0 ends left same in
      omega (arith, a, b, c, is)

  pub reopened_account : IsRunAccount step opened before → IsRunAccount step opened again
  reopened_account account = record {
    once = λ id. once_same id (account.once id);
    posts = account.posts;
    numbered = account.numbered ∙ sym (all_numbers pes ends left same);
    whole = λ g. let a = letters_same g in let b = journals_same g in let c = account.whole g in omega (arith, a, b, c);
    own = zero_all_own (lives again) (lives_same others_in ∙ all_own_zero (lives before) account.own);
    stands = λ e lt. lives_same (λ x. if x.0 == e then 1 else 0) ∙ account.stands e lt;
    counted = counted_same account.counted;
    sent = sent_same account.sent;
  }
