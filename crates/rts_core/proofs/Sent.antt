-- What the elements have sent, and how many letters there are, after an event.
use Rattle.std.proofs.Common.{◌≡◌, ℕ, ◌+◌, List, [], ◌∷◌, ◌++◌, length, map, Option, Some, None, sum_by, arith, refl, sym, ◌∙◌, ap, subst}
use Rattle.std.specs.Prelude.{All, IfSome, slice_get}
use Rattle.std.specs.List.{flat_map}
use Rattle.std.specs.BTreeMap.{is_at}
use Rattle.std.specs.Ordering.{nat_cmp}
use Rattle.std.proofs.lemmas.List.Sums.{sum_by-cons, sum_by-append}
use Rattle.std.proofs.lemmas.Grind.{flat_map-append}
use Rattle.std.proofs.lemmas.Map.Views.{IfSome-lookup_from_All}
use Rattle.std.proofs.lemmas.Option.{slice_get_within, get_or_from_slice_get}
use Rattle.chares.specs.declared.trace_entry.TraceEntry.{TraceEntry}
use Rattle.chares.specs.Elements.{ElementView, ran, lived, opening_element, IsHistory}
use Rattle.chares.specs.Letters.{LetterView, Done, input_of}
use Rattle.chares.specs.Steps.{Step}
use Rattle.pe_state.specs.Rooms.{found}
use Rattle.rts_core.specs.Accounts.{message, AreSent, IsCounted}
use Rattle.pe_state.specs.Histories.{HasHistories}
use Rattle.rts_core.specs.Histories.{AreHistories}
use Rattle.rts_core.specs.Places.{Life, life_of, letters, lives, letters_of_entry, letters_of_life, journaled, sent_over, sends_of, sends}
use Rattle.rts_core.specs.Worlds.{WorldView}
use Rattle.rts_core.proofs.Weights.{Weight, weigh, of_world, sum_by-flat_map}
use Rattle.rts_core.proofs.Moves.{Work, work_letters, work_sends, before, after}
use Rattle.rts_core.proofs.WorldSteps.{AreOf, Stands, Stepped}
use Rattle.rts_core.proofs.Listings.{no_life, no_letter, sum_zero, world_letters, world_lives, world_journals, before_none, after_none}

-- what is said weighs the same, whatever the number of the letter
abbrev pub by_message : (ℕ × List ℕ → ℕ) → Weight
by_message h = λ id to body. h (to, body)

-- the chare of element e of n after these entries, from this chare on
abbrev pub folded : {C : Type 0} → Step C → ℕ → ℕ → C → List Done → C
folded step e n chare [] = chare
folded step e n chare (done ∷ journal) = folded step e n (step chare e n (input_of done)).state journal

-- one more entry adds its sends
pub sent_more : {C : Type 0} (step : Step C) (e n : ℕ) (h : ℕ × List ℕ → ℕ) (c : C) (xs : List Done) (done : Done)
    → sum_by h (sent_over step e n c (xs ++ done ∷ [])) ≡ sum_by h (sent_over step e n c xs) + sum_by h (step (folded step e n c xs) e n (input_of done)).sends
sent_more step e n h c [] done =
    let a = sum_by-append h (step c e n (input_of done)).sends [] in
    omega (arith, a)
sent_more step e n h c (x ∷ xs) done =
    let one = step c e n (input_of x) in
    let a = sum_by-append h one.sends (sent_over step e n one.state (xs ++ done ∷ [])) in
    let b = sum_by-append h one.sends (sent_over step e n one.state xs) in
    let ih = sent_more step e n h one.state xs done in
    omega (arith, a, b, ih)

-- one more entry adds its letter
pub journal_more : (f : LetterView → ℕ) (i : ℕ) (xs : List Done) (done : Done)
    → sum_by f (letters_of_life (i, xs ++ done ∷ [])) ≡ sum_by f (letters_of_life (i, xs)) + sum_by f (letters_of_entry done)
journal_more f i xs done =
    let a : sum_by f (flat_map letters_of_entry (xs ++ done ∷ [])) ≡ sum_by f
    (flat_map letters_of_entry xs ++ flat_map letters_of_entry (done ∷ [])) = ap (sum_by f) (flat_map-append letters_of_entry xs (done ∷ [])) in
    let b = sum_by-append f (flat_map letters_of_entry xs) (flat_map letters_of_entry (done ∷ [])) in
    let c : sum_by f (letters_of_entry done ++ []) ≡ sum_by f (letters_of_entry done) + sum_by f [] = sum_by-append f (letters_of_entry done) [] in
    omega (arith, a, b, c)

-- the chare after these entries is the step folded over them
pub lived_folded : {C : Type 0} (step : Step C) (pack : C → List ℕ) (el : ElementView C) (n : ℕ) (xs : List (Done × ℕ))
    → (lived step pack el n xs).chare ≡ folded step el.index n el.chare (map (λ x. x.0) xs)
lived_folded step pack el n [] = refl
lived_folded step pack el n (x ∷ xs) = lived_folded step pack (ran step pack el n x.1 x.0) n xs

pub history_folded : {C : Type 0} (step : Step C) (pack : C → List ℕ) (opened : List C) (el : ElementView C) (h : IsHistory step pack opened el)
    → folded step el.index (length opened) h.opening el.journal ≡ el.chare
history_folded {C} step pack opened el h =
    let a : (lived step pack (opening_element el.index h.opening) (length opened) h.entries).chare ≡ folded step el.index (length opened)
    h.opening (map (λ x. x.0) h.entries) = lived_folded step pack (opening_element el.index h.opening) (length opened) h.entries in
    let b : (lived step pack (opening_element el.index h.opening) (length opened) h.entries).chare ≡ el.chare = ap (λ (v : ElementView C). v.chare) h.is_lived in
    let c : folded step el.index (length opened) h.opening (map (λ x. x.0) h.entries) ≡ folded step el.index (length opened) h.opening
    el.journal = ap (folded step el.index (length opened) h.opening) h.is_journal in
    sym c ∙ (sym a ∙ b)

pub sends_more : {C : Type 0} (step : Step C) (pack : C → List ℕ) (opened : List C) (h : ℕ × List ℕ → ℕ) (el : ElementView C) (done : Done) → IsHistory step pack opened el
    → sum_by h (sends_of step opened (el.index, el.journal ++ done ∷ [])) ≡ sum_by h (sends_of step opened (life_of el)) + sum_by h
    (step el.chare el.index (length opened) (input_of done)).sends
sends_more {C} step pack opened h el done is =
    let a : sum_by h (sent_over step el.index (length opened) is.opening (el.journal ++ done ∷ [])) ≡ sum_by h
    (sent_over step el.index (length opened) is.opening el.journal) + sum_by h
    (step (folded step el.index (length opened) is.opening el.journal) el.index (length opened) (input_of done)).sends = sent_more step
    el.index (length opened) h is.opening el.journal done in
    let b : sum_by h (sent_over step el.index (length opened) is.opening (el.journal ++ done ∷ [])) ≡ sum_by h
    (sent_over step el.index (length opened) is.opening el.journal) + sum_by h
    (step el.chare el.index (length opened) (input_of done)).sends = subst
    (λ (v : C). sum_by h (sent_over step el.index (length opened) is.opening (el.journal ++ done ∷ [])) ≡ sum_by h
    (sent_over step el.index (length opened) is.opening el.journal) + sum_by h (step v el.index (length opened) (input_of done)).sends)
    (history_folded step pack opened el is) a in
    rw is.opens b

-- what holds of all holds of one
pub all_at : {X : Type 0} (P : X → Type 0) (xs : List X) (i : ℕ) (x : X) → All P xs → slice_get xs i ≡ Some x → P x
all_at P xs i x all at = subst P (get_or_from_slice_get xs i x x at) (all i x (slice_get_within xs i x at))

-- the journals after a handler have the letter that it handles, and those before it
pub journal_after : {C : Type 0} (g : Weight) (work : Option (Work C))
    → after (λ x. sum_by (weigh g) (letters_of_life x)) work ≡ before (λ x. sum_by (weigh g) (letters_of_life x)) work + sum_by (weigh g) (work_letters work)
journal_after g None = refl
journal_after g (Some x) = journal_more (weigh g) x.0.index x.0.journal x.1

abbrev pub sends_weight : {C : Type 0} → Step C → List C → (ℕ × List ℕ → ℕ) → Life → ℕ
sends_weight step opened h = λ x. sum_by h (sends_of step opened x)

module _ {C A : Type 0} (step : Step C) (fits : C → Type 0) (pack : C → List ℕ) (opened : List C) where
  pub histories_of : (w : WorldView C A) → AreHistories step fits pack opened w → AreOf (length opened) w
  histories_of w h p pe at = (all_at (HasHistories step fits pack opened) w.pes p pe h.pes at).same_array

  pub stands_history : (w : WorldView C A) (el : ElementView C) → AreHistories step fits pack opened w → Stands w el → IsHistory step pack opened el
  stands_history w el h (p, pe, e, at, is) =
      let here : HasHistories step fits pack opened pe = all_at (HasHistories step fits pack opened) w.pes p pe h.pes at in
      let there : IfSome (found e pe.room) (IsHistory step pack opened) = IfSome-lookup_from_All (IsHistory step pack opened) (is_at (nat_cmp e)) pe.room here.room in
      subst (λ (o : Option (ElementView C)). IfSome o (IsHistory step pack opened)) is there

  pub work_sent : (w : WorldView C A) (h : ℕ × List ℕ → ℕ) (work : Option (Work C)) → AreHistories step fits pack opened w → IfSome work (λ x. Stands w x.0)
      → after (sends_weight step opened h) work ≡ before (sends_weight step opened h) work + sum_by h (work_sends step (length opened) work)
  work_sent w h None are stood = refl
  work_sent w h (Some x) are stood = sends_more step pack opened h x.0 x.1 (stands_history w x.0 are stood)

  -- what the elements have sent is in places or in journals after an event where it was so before
  pub sent_step : (w w' : WorldView C A) (rs : List TraceEntry) → AreHistories step fits pack opened w → Stepped step (length opened) w w' rs
      → AreSent step opened w → AreSent step opened w'
  sent_step w w' rs are s h weight =
      let a = s.weighs (by_message weight) no_life in
      let b = s.weighs no_letter (sends_weight step opened weight) in
      let j = s.weighs no_letter (λ x. sum_by (weigh (by_message weight)) (letters_of_life x)) in
      let old = h weight in
      let sent = work_sent w weight s.work are s.stood in
      let said : sum_by (weigh (by_message weight)) s.new ≡ sum_by weight (work_sends step (length opened) s.work) = s.says weight in
      let more = journal_after (by_message weight) s.work in
      let l : sum_by (λ x. weight (message x)) (letters w) ≡ of_world (by_message weight) no_life w = world_letters (by_message weight) w in
      let l' : sum_by (λ x. weight (message x)) (letters w') ≡ of_world (by_message weight) no_life w' = world_letters (by_message weight) w' in
      let k : sum_by (λ x. weight (message x)) (journaled w) ≡ of_world no_letter
      (λ x. sum_by (weigh (by_message weight)) (letters_of_life x)) w = world_journals (by_message weight) w in
      let k' : sum_by (λ x. weight (message x)) (journaled w') ≡ of_world no_letter
      (λ x. sum_by (weigh (by_message weight)) (letters_of_life x)) w' = world_journals (by_message weight) w' in
      let m : sum_by weight (sends step opened w) ≡ of_world no_letter (sends_weight step opened weight) w = sum_by-flat_map weight
      (sends_of step opened) (lives w) ∙ world_lives (sends_weight step opened weight) w in
      let m' : sum_by weight (sends step opened w') ≡ of_world no_letter (sends_weight step opened weight) w' = sum_by-flat_map weight
      (sends_of step opened) (lives w') ∙ world_lives (sends_weight step opened weight) w' in
      let z : sum_by (weigh no_letter) s.new ≡ 0 = sum_zero s.new in
      let y : sum_by (weigh no_letter) (work_letters s.work) ≡ 0 = sum_zero (work_letters s.work) in
      omega (arith, a, b, j, old, sent, said, more, l, l', k, k', m, m', z, y, before_none s.work, after_none s.work)

-- ---- how many

pub length_sum : {X : Type 0} (xs : List X) → sum_by (λ x. 1) xs ≡ length xs
length_sum [] = refl
length_sum {X} (x ∷ xs) =
    let a : sum_by (λ (y : X). 1) (x ∷ xs) ≡ 1 + sum_by (λ (y : X). 1) xs = sum_by-cons (λ (y : X). 1) x xs in
    omega (arith, a, length_sum xs)

abbrev pub each_one : Weight
each_one id to body = 1

-- all letters that were posted are counted after an event where they were before
pub counted_step : {C A : Type 0} (step : Step C) (n : ℕ) (w w' : WorldView C A) (rs : List TraceEntry) → Stepped step n w w' rs → IsCounted w → IsCounted w'
counted_step step n w w' rs s h =
    let a = s.weighs each_one no_life in
    let j = s.weighs no_letter (λ x. sum_by (weigh each_one) (letters_of_life x)) in
    let c = s.counts in
    let more = journal_after each_one s.work in
    let l : length (letters w) ≡ of_world each_one no_life w = sym (length_sum (letters w)) ∙ world_letters each_one w in
    let l' : length (letters w') ≡ of_world each_one no_life w' = sym (length_sum (letters w')) ∙ world_letters each_one w' in
    let k : length (journaled w) ≡ of_world no_letter (λ x. sum_by (weigh each_one) (letters_of_life x)) w = sym (length_sum (journaled w)) ∙ world_journals each_one w in
    let k' : length (journaled w') ≡ of_world no_letter (λ x. sum_by (weigh each_one) (letters_of_life x)) w' = sym (length_sum (journaled w')) ∙ world_journals each_one w' in
    let z : sum_by (weigh no_letter) s.new ≡ 0 = sum_zero s.new in
    let y : sum_by (weigh no_letter) (work_letters s.work) ≡ 0 = sum_zero (work_letters s.work) in
    omega (arith, a, j, c, h, more, l, l', k, k', z, y, before_none s.work, after_none s.work)
