-- The account of a run, once all PEs are gathered and the queues are settled.
use Rattle.std.proofs.Common.{◌≡◌, ℕ, zero, suc, ◌+◌, ◌<◌, List, [], ◌∷◌, length, map, Option, Some, None, sum_by, arith, refl, sym, ◌∙◌, ap, nat_lt}
use Rattle.std.specs.Prelude.{All, Vec, slice_get, slice_index_or, ◌==◌, ◌++◌, if◌then◌else◌}
use Rattle.std.specs.List.{flat_map, range_with_len}
use Rattle.std.specs.Option.{option_map_or}
use Rattle.std.proofs.lemmas.Bool.Decides.{nat_tests}
use Rattle.std.proofs.lemmas.List.{length-map, length-append}
use Rattle.std.proofs.lemmas.List.Elements.{All-nil, All-cons, All-head, All-tail}
use Rattle.std.proofs.lemmas.List.FromFn.{length-map-range_with_len}
use Rattle.std.proofs.lemmas.List.Sums.{sum_by-cons}
use Rattle.chare_index.specs.declared.limits.TheConstants.Limits.{SEATS}
use Rattle.sync_board.specs.Boards.{BoardState}
use Rattle.chares.specs.Letters.{LetterView}
use Rattle.chares.specs.Steps.{Step}
use Rattle.pe_state.specs.Pes.{PeView, Parcel}
use Rattle.pe_queues.specs.Conservation.{Balances}
use Rattle.pe_queues.specs.Seats.{SeatView, AreLeft}
use Rattle.rts_core.specs.Accounts.{times, is_number, message, AreSent, IsCounted}
use Rattle.rts_core.specs.Ledgers.{IsSteady, all_letters_in}
use Rattle.rts_core.specs.Own.{IsOwn, AreOwn}
use Rattle.rts_core.specs.Places.{Life, lives_in, lives_at, letters, lives, journaled, letters_of_entry, letters_of_life, sends_of, sends}
use Rattle.rts_core.specs.Worlds.{WorldView}
use Rattle.rts_core.proofs.Weights.{Weight, of_parcel, of_pe, of_queue, sum_by-flat_map, sum_by-map, sum_by-same, sum_by-both}
use Rattle.rts_core.proofs.Listings.{no_life, no_letter, pe_lives, queue_lives, world_letters, world_lives, world_journals}
use Rattle.rts_core.proofs.LocalBalance.{in_journal, pe_all, parcels_all}
use Rattle.rts_core.proofs.OpeningWeights.{one_at}
use Rattle.rts_core.proofs.Sent.{by_message, sends_weight, journal_more, length_sum}
use Rattle.rts_core.proofs.WorldSteps.{known}
use Rattle.pe_worker.specs.Seated.{Beginning, sum_each}
use Rattle.run_account.specs.Gathering.{AreGathered, weigh, numbers_of, letters_of, lives_of, sends_by, at_start, share_at}
use Rattle.run_account.specs.RunAccounts.{posted_times, IsRunAccount, left_world}
use Rattle.run_account.proofs.Numbers.{number_in, numbers_at, InOrder}
use Rattle.run_account.proofs.Posts.{Merged, merged}

-- ---- what is left of the queues

left_each : {X A : Type 0} (h : X → ℕ) (puts takes : List (List X)) (left : List (Vec X A)) → length puts ≡ length left → length takes ≡ length left
    → ((k : ℕ) (d : Vec X A) → k < length left → Balances (slice_index_or puts k []) (slice_index_or takes k []) (slice_index_or left k d).items)
    → sum_each h puts ≡ sum_each h takes + sum_each h (map (λ v. v.items) left)
left_each h [] [] [] p t b = refl
left_each h [] [] (v ∷ left) p t b = absurd (omega (arith, p))
left_each h [] (ys ∷ takes) [] p t b = absurd (omega (arith, t))
left_each h [] (ys ∷ takes) (v ∷ left) p t b = absurd (omega (arith, p))
left_each h (xs ∷ puts) takes [] p t b = absurd (omega (arith, p))
left_each h (xs ∷ puts) [] (v ∷ left) p t b = absurd (omega (arith, t))
left_each {X} {A} h (xs ∷ puts) (ys ∷ takes) (v ∷ left) p t b =
    let a : sum_each h (xs ∷ puts) ≡ sum_by h xs + sum_each h puts = sum_by-cons (sum_by h) xs puts in
    let c : sum_each h (ys ∷ takes) ≡ sum_by h ys + sum_each h takes = sum_by-cons (sum_by h) ys takes in
    let d : sum_each h (v.items ∷ map (λ (u : Vec X A). u.items) left) ≡ sum_by h v.items + sum_each h
    (map (λ (u : Vec X A). u.items) left) = sum_by-cons (sum_by h) v.items (map (λ (u : Vec X A). u.items) left) in
    let e : sum_by h xs ≡ sum_by h ys + sum_by h v.items = b 0 v (omega arith) h in
    let f = left_each h puts takes left (omega (arith, p)) (omega (arith, t)) (λ k u lt. b (suc k) u (omega (arith, lt))) in
    omega (arith, a, c, d, e, f)

-- ---- sums over indices

past : {X : Type 0} (f : X → ℕ) (x : X) (xs : List X) (a n : ℕ)
    → sum_by (λ q. option_map_or f (slice_get (x ∷ xs) q) 0) (range_with_len (a + 1) n) ≡ sum_by (λ q. option_map_or f (slice_get xs q) 0) (range_with_len a n)
past f x xs a zero = refl
past f x xs a (suc n) =
    let g : ℕ → ℕ = λ q. option_map_or f (slice_get (x ∷ xs) q) 0 in
    let h : ℕ → ℕ = λ q. option_map_or f (slice_get xs q) 0 in
    let b : sum_by g ((a + 1) ∷ range_with_len ((a + 1) + 1) n) ≡ g (a + 1) + sum_by g (range_with_len ((a + 1) + 1) n) = sum_by-cons g (a + 1) (range_with_len ((a + 1) + 1) n) in
    let c : sum_by h (a ∷ range_with_len (a + 1) n) ≡ h a + sum_by h (range_with_len (a + 1) n) = sum_by-cons h a (range_with_len (a + 1) n) in
    let e : a + 1 ≡ suc a = omega arith in
    let d : g (a + 1) ≡ h a = ap g e in
    omega (arith, b, c, d, past f x xs (a + 1) n)

-- each index of a list once
sum_places : {X : Type 0} (f : X → ℕ) (xs : List X) → sum_by (λ q. option_map_or f (slice_get xs q) 0) (range_with_len 0 (length xs)) ≡ sum_by f xs
sum_places f [] = refl
sum_places {X} f (x ∷ xs) =
    let g : ℕ → ℕ = λ q. option_map_or f (slice_get (x ∷ xs) q) 0 in
    let a : sum_by g (0 ∷ range_with_len (0 + 1) (length xs)) ≡ g 0 + sum_by g (range_with_len (0 + 1) (length xs)) = sum_by-cons g 0 (range_with_len (0 + 1) (length xs)) in
    let b = past f x xs 0 (length xs) in
    let c = sum_by-cons f x xs in
    omega (arith, a, b, c, sum_places f xs)

-- ---- letters of others

abbrev pub is_other : ℕ → LetterView → ℕ
is_other e l = if l.to == e then 0 else 1

-- how many letters that were posted to others an element has executed
abbrev pub others_in : Life → ℕ
others_in life = sum_by (is_other life.0) (letters_of_life life)

one_own : (e : ℕ) (l : LetterView) → l.to ≡ e → is_other e l ≡ 0
one_own e l same = grind (arith, nat_tests)

one_other : (e : ℕ) (l : LetterView) → is_other e l ≡ 0 → l.to ≡ e
one_other e l none = grind (arith, nat_tests)

own_zero : (e : ℕ) (ls : List LetterView) → All (λ l. l.to ≡ e) ls → sum_by (is_other e) ls ≡ 0
own_zero e [] all = refl
own_zero e (l ∷ ls) all =
    let a = sum_by-cons (is_other e) l ls in
    let b : is_other e l ≡ 0 = one_own e l (All-head (λ (m : LetterView). m.to ≡ e) l ls all) in
    omega (arith, a, b, own_zero e ls (All-tail (λ (m : LetterView). m.to ≡ e) l ls all))

zero_own : (e : ℕ) (ls : List LetterView) → sum_by (is_other e) ls ≡ 0 → All (λ l. l.to ≡ e) ls
zero_own e [] none = All-nil (λ (m : LetterView). m.to ≡ e)
zero_own e (l ∷ ls) none =
    let a = sum_by-cons (is_other e) l ls in
    let b : is_other e l ≡ 0 = omega (arith, a, none) in
    All-cons (λ (m : LetterView). m.to ≡ e) l ls (one_other e l b) (zero_own e ls (omega (arith, a, none)))

pub zero_all_own : (xs : List Life) → sum_by others_in xs ≡ 0 → All IsOwn xs
zero_all_own [] none = All-nil IsOwn
zero_all_own (x ∷ xs) none =
    let a = sum_by-cons others_in x xs in
    All-cons IsOwn x xs (zero_own x.0 (letters_of_life x) (omega (arith, a, none))) (zero_all_own xs (omega (arith, a, none)))

pub all_own_zero : (xs : List Life) → All IsOwn xs → sum_by others_in xs ≡ 0
all_own_zero [] own = refl
all_own_zero (x ∷ xs) own =
    let a = sum_by-cons others_in x xs in
    let b : others_in x ≡ 0 = own_zero x.0 (letters_of_life x) (All-head IsOwn x xs own) in
    omega (arith, a, b, all_own_zero xs (All-tail IsOwn x xs own))

-- no handler changes this number, and none the index
pub others_steady : IsSteady others_in
others_steady e journal done own =
    let a = journal_more (is_other e) e journal done in
    let b = own_zero e (letters_of_entry done) own in
    omega (arith, a, b)

index_steady : (e : ℕ) → IsSteady (λ x. one_at e x.0)
index_steady e i journal done own = refl

-- whether a PE has posted a letter of this number, as the account says it
pub known_is : {C : Type 0} (j : ℕ) (o : Option (PeView C)) → known j o ≡ option_map_or (λ pe. if nat_lt j pe.count then 1 else 0) o 0
known_is j None = refl
known_is j (Some pe) = refl

-- all seats are joined
pub all_seats : {C : Type 0} (step : Step C) (fits : C → Type 0) (pack : C → List ℕ) (opened : List C) (run : Beginning C)
    (ends : List (PeView C)) (seat : SeatView Parcel) → AreGathered step fits pack opened run ends seat
    → length ends ≡ length run.shares → sum_by (λ n. n) run.shares ≡ SEATS → seat.seats ≡ SEATS
all_seats {C} step fits pack opened run ends seat t same all =
    let g : ℕ → ℕ = λ q. share_at run.shares q in
    let s : sum_by (λ (pe : PeView C). g pe.me) ends ≡ sum_by g (range_with_len 0 (length ends)) = sym (sum_by-map g (λ (pe : PeView C). pe.me) ends) ∙ ap (sum_by g) t.in_order in
    let r : sum_by g (range_with_len 0 (length ends)) ≡ sum_by g (range_with_len 0 (length run.shares)) = ap (λ (v : ℕ). sum_by g (range_with_len 0 v)) same in
    let p : sum_by g (range_with_len 0 (length run.shares)) ≡ sum_by (λ (n : ℕ). n) run.shares = sum_places (λ n. n) run.shares in
    omega (arith, t.share, s, r, p, all)

-- ---- the account

module _ {C A B : Type 0} (step : Step C) (fits : C → Type 0) (pack : C → List ℕ) (opened : List C) (run : Beginning C)
    (ends : List (PeView C)) (seat : SeatView Parcel) (left : List (Vec Parcel A)) (words : List ℕ) (b : BoardState B)
    (t : AreGathered step fits pack opened run ends seat) (l : AreLeft seat left)
    (before : IsRunAccount step opened (left_world run.starts [])) (ordered : InOrder 0 run.starts) (same_length : length ends ≡ length run.starts) where
  abbrev pub queues : List (List Parcel)
  queues = map (λ v. v.items) left

  abbrev pub w : WorldView C B
  w = record { pes = ends; queues = queues; words = words; board = b }

  -- what the run began with
  abbrev pub begun : WorldView C (Unit {0})
  begun = left_world run.starts []

  -- each PE that the run began with once
  starts_sum : (f : PeView C → ℕ) → sum_by (λ pe. at_start f run.starts pe.me) ends ≡ sum_by f run.starts
  starts_sum f =
      let g : ℕ → ℕ = λ q. at_start f run.starts q in
      let s : sum_by (λ (pe : PeView C). g pe.me) ends ≡ sum_by g (range_with_len 0 (length ends)) = sym
      (sum_by-map g (λ (pe : PeView C). pe.me) ends) ∙ ap (sum_by g) t.in_order in
      let r : sum_by g (range_with_len 0 (length ends)) ≡ sum_by g (range_with_len 0 (length run.starts)) = ap (λ (v : ℕ). sum_by g (range_with_len 0 v)) same_length in
      let p : sum_by g (range_with_len 0 (length run.starts)) ≡ sum_by f run.starts = sum_places f run.starts in
      omega (arith, s, r, p)

  -- the letters of PEs, whose queues are empty, are in places or in journals
  letters_begun : (g : Weight) → sum_by (letters_of g) run.starts ≡ sum_by (weigh g) (letters begun) + sum_by (weigh g) (journaled begun)
  letters_begun g =
      let e : sum_by (letters_of g) run.starts ≡ sum_by (λ (pe : PeView C). of_pe g no_life pe + of_pe no_letter (in_journal g) pe)
      run.starts = sum_by-same (letters_of g) (λ pe. of_pe g no_life pe + of_pe no_letter (in_journal g) pe) (pe_all g) run.starts in
      let e2 : sum_by (λ (pe : PeView C). of_pe g no_life pe + of_pe no_letter (in_journal g) pe) run.starts ≡ sum_by
      (λ (pe : PeView C). of_pe g no_life pe) run.starts + sum_by (λ (pe : PeView C). of_pe no_letter (in_journal g) pe)
      run.starts = sum_by-both (λ (pe : PeView C). of_pe g no_life pe) (λ pe. of_pe no_letter (in_journal g) pe) run.starts in
      let x : sum_by (weigh g) (letters begun) ≡ sum_by (λ (pe : PeView C). of_pe g no_life pe) run.starts + sum_by (of_queue g no_life) [] = world_letters g begun in
      let y : sum_by (weigh g) (journaled begun) ≡ sum_by (λ (pe : PeView C). of_pe no_letter (in_journal g) pe) run.starts + sum_by
      (of_queue no_letter (in_journal g)) [] = world_journals g begun in
      let u : sum_by (of_queue g no_life) [] ≡ 0 = refl in
      let v : sum_by (of_queue no_letter (in_journal g)) [] ≡ 0 = refl in
      omega (arith, e, e2, x, y, u, v)

  lives_begun : (k : Life → ℕ) → sum_by (lives_of k) run.starts ≡ sum_by k (lives begun)
  lives_begun k =
      let e : sum_by (lives_of k) run.starts ≡ sum_by (λ (pe : PeView C). of_pe no_letter k pe) run.starts = sum_by-same (lives_of k)
      (λ pe. of_pe no_letter k pe) (pe_lives k) run.starts in
      let x : sum_by k (lives begun) ≡ sum_by (λ (pe : PeView C). of_pe no_letter k pe) run.starts + sum_by (of_queue no_letter k) [] = world_lives k begun in
      let u : sum_by (of_queue no_letter k) [] ≡ 0 = refl in
      omega (arith, e, x, u)

  -- the letters posted before the run began, and those posted since, in the order of their numbers
  all_posts : Merged ends before.posts t.ledger.posted
  all_posts = merged run.starts 0 run.starts ends before.posts t.ledger.posted refl ordered t.in_order same_length t.grown before.numbered t.numbered

  -- what was given away is what was received and what is left
  left_gone : (h : Parcel → ℕ) → sum_by h t.ledger.came + sum_each h queues ≡ sum_by h t.ledger.gone
  left_gone h =
      let m = t.matches.matched h in
      let p : length seat.puts ≡ length left = t.matches.all_puts ∙ sym l.one_each in
      let q : length seat.takes ≡ length left = t.matches.all_takes ∙ sym l.one_each in
      let e = left_each h seat.puts seat.takes left p q (λ k d lt. l.balance k d (omega (arith, lt, l.one_each))) in
      omega (arith, m, e)

  letters_all : (g : Weight) → sum_by (weigh g) (letters w) + sum_by (weigh g) (journaled w) ≡ sum_by (weigh g) all_posts.posts
  letters_all g =
      let h : Parcel → ℕ = λ p. sum_by (weigh g) (all_letters_in p) in
      let a = t.letters g in
      let fg : sum_by (weigh g) (flat_map all_letters_in t.ledger.gone) ≡ sum_by h t.ledger.gone = sum_by-flat_map (weigh g) all_letters_in t.ledger.gone in
      let fc : sum_by (weigh g) (flat_map all_letters_in t.ledger.came) ≡ sum_by h t.ledger.came = sum_by-flat_map (weigh g) all_letters_in t.ledger.came in
      let lg = left_gone h in
      let e : sum_by (letters_of g) ends ≡ sum_by (λ (pe : PeView C). of_pe g no_life pe + of_pe no_letter (in_journal g) pe)
      ends = sum_by-same (letters_of g) (λ pe. of_pe g no_life pe + of_pe no_letter (in_journal g) pe) (pe_all g) ends in
      let e2 : sum_by (λ (pe : PeView C). of_pe g no_life pe + of_pe no_letter (in_journal g) pe) ends ≡ sum_by
      (λ (pe : PeView C). of_pe g no_life pe) ends + sum_by (λ (pe : PeView C). of_pe no_letter (in_journal g) pe) ends = sum_by-both
      (λ (pe : PeView C). of_pe g no_life pe) (λ pe. of_pe no_letter (in_journal g) pe) ends in
      let q : sum_each h queues ≡ sum_by (λ xs. of_queue g no_life xs + of_queue no_letter (in_journal g) xs) queues = sum_by-same
      (λ xs. sum_by h xs) (λ xs. of_queue g no_life xs + of_queue no_letter (in_journal g) xs)
      (λ xs. sym (sum_by-flat_map (weigh g) all_letters_in xs) ∙ parcels_all g xs) queues in
      let q2 = sum_by-both (of_queue g no_life) (of_queue no_letter (in_journal g)) queues in
      let x : sum_by (weigh g) (letters w) ≡ sum_by (λ (pe : PeView C). of_pe g no_life pe) ends + sum_by (of_queue g no_life) queues = world_letters g w in
      let y : sum_by (weigh g) (journaled w) ≡ sum_by (λ (pe : PeView C). of_pe no_letter (in_journal g) pe) ends + sum_by
      (of_queue no_letter (in_journal g)) queues = world_journals g w in
      omega (arith, a, fg, fc, lg, e, e2, q, q2, x, y, starts_sum (letters_of g), letters_begun g, before.whole g, all_posts.whole (weigh g))

  lives_all : (k : Life → ℕ) → IsSteady k → sum_by k (lives w) ≡ sum_by k (lives begun)
  lives_all k steady =
      let h : Parcel → ℕ = λ p. sum_by k (lives_in p) in
      let a = t.lives k steady in
      let fg : sum_by k (flat_map lives_in t.ledger.gone) ≡ sum_by h t.ledger.gone = sum_by-flat_map k lives_in t.ledger.gone in
      let fc : sum_by k (flat_map lives_in t.ledger.came) ≡ sum_by h t.ledger.came = sum_by-flat_map k lives_in t.ledger.came in
      let lg = left_gone h in
      let e : sum_by (lives_of k) ends ≡ sum_by (λ (pe : PeView C). of_pe no_letter k pe) ends = sum_by-same
      (λ (pe : PeView C). lives_of k pe) (λ pe. of_pe no_letter k pe) (pe_lives k) ends in
      let q : sum_each h queues ≡ sum_by (of_queue no_letter k) queues = sum_by-same (λ xs. sum_by h xs) (of_queue no_letter k)
      (λ xs. sym (sum_by-flat_map k lives_in xs) ∙ queue_lives k xs) queues in
      let x : sum_by k (lives w) ≡ sum_by (λ (pe : PeView C). of_pe no_letter k pe) ends + sum_by (of_queue no_letter k) queues = world_lives k w in
      omega (arith, a, fg, fc, lg, e, q, x, starts_sum (lives_of k), lives_begun k)

  sent_all : AreSent step opened w
  sent_all weight =
      let h : Parcel → ℕ = λ p. sum_by weight (flat_map (sends_of step opened) (lives_in p)) in
      let k : Life → ℕ = sends_weight step opened weight in
      let a = t.sent weight in
      let flat : (xs : List Parcel) → sum_by weight (flat_map (sends_of step opened) (flat_map lives_in xs)) ≡ sum_by
      (of_parcel no_letter k) xs = λ xs. sum_by-flat_map weight (sends_of step opened) (flat_map lives_in xs) ∙ queue_lives k xs in
      let lg = left_gone (of_parcel no_letter k) in
      let by_pe : (xs : List (PeView C)) → sum_by (sends_by step opened weight) xs ≡ sum_by (λ (pe : PeView C). of_pe no_letter k pe)
      xs = λ xs. sum_by-same (sends_by step opened weight) (λ pe. of_pe no_letter k pe)
      (λ pe. sum_by-flat_map weight (sends_of step opened) (lives_at pe) ∙ pe_lives k pe) xs in
      let e = by_pe ends in
      let x : sum_by weight (sends step opened w) ≡ sum_by (λ (pe : PeView C). of_pe no_letter k pe) ends + sum_by (of_queue no_letter k)
      queues = sum_by-flat_map weight (sends_of step opened) (lives w) ∙ world_lives k w in
      let p : sum_by (λ l. weight (message l)) (letters w) + sum_by (λ l. weight (message l)) (journaled w) ≡ sum_by
      (λ l. weight (message l)) all_posts.posts = letters_all (by_message weight) in
      let b : sum_by (sends_by step opened weight) run.starts ≡ sum_by weight (sends step opened begun) = by_pe run.starts ∙ sends_begun k weight in
      let c = before.sent weight in
      let d : sum_by (λ l. weight (message l)) (letters begun) + sum_by (λ l. weight (message l)) (journaled begun) ≡ sum_by
      (λ l. weight (message l)) before.posts = before.whole (by_message weight) in
      let f : sum_by (λ l. weight (message l)) all_posts.posts ≡ sum_by (λ l. weight (message l)) before.posts + sum_by
      (λ l. weight (message l)) t.ledger.posted = all_posts.whole (λ l. weight (message l)) in
      omega (arith, a, flat t.ledger.gone, flat t.ledger.came, lg, e, x, p, b, c, d, f, starts_sum (sends_by step opened weight))
    where
      sends_begun : (k : Life → ℕ) (weight : ℕ × List ℕ → ℕ)
          → sum_by (λ (pe : PeView C). of_pe no_letter (sends_weight step opened weight) pe) run.starts ≡ sum_by weight (sends step opened begun)
      sends_begun k weight =
          let j : Life → ℕ = sends_weight step opened weight in
          let x : sum_by weight (sends step opened begun) ≡ sum_by (λ (pe : PeView C). of_pe no_letter j pe) run.starts + sum_by
          (of_queue no_letter j) [] = sum_by-flat_map weight (sends_of step opened) (lives begun) ∙ world_lives j begun in
          let u : sum_by (of_queue no_letter j) [] ≡ 0 = refl in
          omega (arith, x, u)

  once_all : (id : ℕ × ℕ) → times (λ l. is_number id l.id) (letters w) + times (λ l. is_number id l.id) (journaled w) ≡ posted_times id ends
  once_all id =
      let p = letters_all (λ n to body. number_in id n) in
      let m : sum_by (λ (x : LetterView). number_in id x.id) all_posts.posts ≡ sum_by (number_in id)
      (map (λ (x : LetterView). x.id) all_posts.posts) = sym (sum_by-map (number_in id) (λ (x : LetterView). x.id) all_posts.posts) in
      let n : sum_by (number_in id) (map (λ (x : LetterView). x.id) all_posts.posts) ≡ sum_by (number_in id) (flat_map numbers_of ends) = ap
      (sum_by (number_in id)) all_posts.numbered in
      let z : id.0 ≡ 0 + id.0 = omega arith in
      let k : sum_by (number_in id) (flat_map numbers_of ends) ≡ known id.1 (slice_get ends id.0) = numbers_at id.0 id.1 0 id.0 ends t.in_order z in
      omega (arith, p, m, n, k, known_is id.1 (slice_get ends id.0))

  counted_all : IsCounted w
  counted_all =
      let one : ℕ × ℕ → ℕ → List ℕ → ℕ = λ n to body. 1 in
      let p = letters_all one in
      let a : sum_by (λ (x : LetterView). 1) (letters w) ≡ length (letters w) = length_sum (letters w) in
      let c : sum_by (λ (x : LetterView). 1) (journaled w) ≡ length (journaled w) = length_sum (journaled w) in
      let posts = all_posts.posts in
      let d : sum_by (λ (x : LetterView). 1) posts ≡ length posts = length_sum posts in
      let e : length (map (λ (x : LetterView). x.id) posts) ≡ length posts = length-map posts (λ x. x.id) in
      let f : length (map (λ (x : LetterView). x.id) posts) ≡ length (flat_map numbers_of ends) = ap length all_posts.numbered in
      omega (arith, p, a, c, d, e, f, many ends)
    where
      many : (xs : List (PeView C)) → length (flat_map numbers_of xs) ≡ sum_by (λ pe. pe.count) xs
      many [] = refl
      many (x ∷ xs) =
          let a : length (numbers_of x ++ flat_map numbers_of xs) ≡ length (numbers_of x) + length (flat_map numbers_of xs) = length-append
          (numbers_of x) (flat_map numbers_of xs) in
          let d : length (numbers_of x) ≡ x.count = length-map-range_with_len (λ k. (x.me, k)) 0 x.count in
          let c = sum_by-cons (λ (pe : PeView C). pe.count) x xs in
          omega (arith, a, d, c, many xs)

  stands_all : (e : ℕ) → e < length opened → times (λ x. x.0 == e) (lives w) ≡ 1
  stands_all e lt = lives_all (λ x. one_at e x.0) (index_steady e) ∙ before.stands e lt

  own_all : AreOwn w
  own_all = zero_all_own (lives w) (lives_all others_in others_steady ∙ all_own_zero (lives begun) before.own)

  pub accounted : IsRunAccount step opened w
  accounted = record {
    once = once_all;
    posts = all_posts.posts;
    numbered = all_posts.numbered;
    whole = letters_all;
    own = own_all;
    stands = stands_all;
    counted = counted_all;
    sent = sent_all;
  }
