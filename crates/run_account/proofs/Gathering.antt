-- One more PE is gathered with those that were gathered before.
use Rattle.std.proofs.Common.{◌≡◌, ℕ, ◌+◌, ◌-◌, ◌≤◌, List, [], ◌∷◌, ◌++◌, length, map, Some, sum_by, arith, refl, sym, ◌∙◌, ap, length-append}
use Rattle.std.specs.Prelude.{slice_get}
use Rattle.std.specs.List.{flat_map, range_with_len}
use Rattle.std.specs.Option.{option_map_or}
use Rattle.std.proofs.lemmas.List.{map-append}
use Rattle.std.proofs.lemmas.List.Elements.{All-nil, All-push, All-cons}
use Rattle.std.proofs.lemmas.List.Sums.{sum_by-cons, sum_by-append, sum_by_push}
use Rattle.std.proofs.lemmas.Grind.{flat_map-append}
use Rattle.chares.specs.Letters.{LetterView}
use Rattle.chares.specs.Steps.{Step}
use Rattle.pe_state.specs.Pes.{PeView, Parcel}
use Rattle.pe_queues.specs.Seats.{SeatView, pes, joined}
use Rattle.rts_core.specs.Accounts.{message}
use Rattle.pe_state.specs.Histories.{HasHistories}
use Rattle.rts_core.specs.Ledgers.{Ledger}
use Rattle.rts_core.proofs.LocalAccount.{lives_joined, sends_joined}
use Rattle.rts_core.proofs.LocalBalance.{joined_all, range_split}
use Rattle.pe_worker.specs.Seated.{Beginning, Matches, IsSeated}
use Rattle.pe_worker.proofs.Matching.{each_both, each_length}
use Rattle.run_account.specs.Gathering.{AreGathered, weigh, numbers_since, letters_of, lives_of, sends_by, at_start, count_before, share_at}

append_none : {X : Type 0} (xs : List X) → xs ++ [] ≡ xs
append_none [] = refl
append_none (x ∷ xs) = ap (λ v. x ∷ v) (append_none xs)

abbrev pub both : Ledger → Ledger → Ledger
both a b = record { came = a.came ++ b.came; gone = a.gone ++ b.gone; posted = a.posted ++ b.posted }

both_match : (a b : Ledger) (s t : SeatView Parcel) → s.post ≡ t.post → Matches a s → Matches b t → Matches (both a b) (joined s t)
both_match a b s t same m n =
    let posts : pes s.post ≡ pes t.post = ap pes same in
    record {
      all_puts = each_length s.puts t.puts ∙ m.all_puts;
      all_takes = each_length s.takes t.takes ∙ m.all_takes;
      matched = λ h.
          let p = m.matched h in
          let q = n.matched h in
          let c = sum_by-append h a.came b.came in
          let d = sum_by-append h a.gone b.gone in
          let e = each_both h s.puts t.puts (omega (arith, m.all_puts, n.all_puts, posts)) in
          let f = each_both h s.takes t.takes (omega (arith, m.all_takes, n.all_takes, posts)) in
          omega (arith, p, q, c, d, e, f);
    }

module _ {C : Type 0} (step : Step C) (fits : C → Type 0) (pack : C → List ℕ) (opened : List C) (count : ℕ) (run : Beginning C) where
  abbrev pub Tied : List (PeView C) → SeatView Parcel → Type 0
  Tied ends seat = AreGathered step fits pack opened run ends seat

  began : (weight : PeView C → ℕ) (q : ℕ) (start : PeView C) → slice_get run.starts q ≡ Some start → at_start weight run.starts q ≡ weight start
  began weight q start at = ap (λ o. option_map_or weight o 0) at

  -- what one PE has posted since it began, of which its count has grown
  module _ (pe : PeView C) (seat : SeatView Parcel) (w : IsSeated step opened count run pe seat) where
    before : count_before run.starts pe.me ≡ w.start.count
    before = began (λ x. x.count) pe.me w.start w.started

    has_grown : count_before run.starts pe.me ≤ pe.count
    has_grown = omega (arith, before, w.local.letters.counted)

    since : map (λ l. l.id) w.ledger.posted ≡ numbers_since run.starts pe
    since =
        let n : length w.ledger.posted ≡ pe.count - count_before run.starts pe.me = omega (arith, before, w.local.letters.counted) in
        let number : ℕ → ℕ × ℕ = λ k. (pe.me, k) in
        w.local.letters.numbered
        ∙ (ap (λ (v : ℕ). map number (range_with_len v (length w.ledger.posted))) (sym before)
        ∙ ap (λ (v : ℕ). map number (range_with_len (count_before run.starts pe.me) v)) n)

  pub gathered_first : (pe : PeView C) (seat : SeatView Parcel) → IsSeated step opened count run pe seat → HasHistories step fits pack opened pe → pe.me ≡ 0 → Tied (pe ∷ []) seat
  gathered_first pe seat w h first =
      record {
        own = w.own;
        share =
            let a = sum_by-cons (λ (x : PeView C). share_at run.shares x.me) pe [] in
            let b : share_at run.shares pe.me ≡ seat.seats = ap (λ o. option_map_or (λ n. n) o 0) w.share in
            let z : sum_by (λ (x : PeView C). share_at run.shares x.me) [] ≡ 0 = refl in
            omega (arith, a, b, z);
        histories = All-cons (HasHistories step fits pack opened) pe [] h (All-nil (HasHistories step fits pack opened));
        in_order = ap (λ (v : ℕ). v ∷ []) first;
        ledger = w.ledger;
        letters = λ g.
            let a = w.local.letters.conserved g in
            let b = sum_by-cons (letters_of g) pe [] in
            let c = sum_by-cons (λ (x : PeView C). at_start (letters_of g) run.starts x.me) pe [] in
            let d = began (letters_of g) pe.me w.start w.started in
            let z : sum_by (letters_of {C = C} g) [] ≡ 0 = refl in
            let y : sum_by (λ (x : PeView C). at_start (letters_of g) run.starts x.me) [] ≡ 0 = refl in
            omega (arith, a, b, c, d, z, y);
        grown = All-cons (λ (x : PeView C). count_before run.starts x.me ≤ x.count) pe [] (has_grown pe seat w)
            (All-nil (λ (x : PeView C). count_before run.starts x.me ≤ x.count));
        numbered = since pe seat w ∙ sym (append_none (numbers_since run.starts pe));
        lives = λ g steady.
            let a = w.local.lives g steady in
            let b = sum_by-cons (lives_of g) pe [] in
            let c = sum_by-cons (λ (x : PeView C). at_start (lives_of g) run.starts x.me) pe [] in
            let d = began (lives_of g) pe.me w.start w.started in
            let z : sum_by (lives_of {C = C} g) [] ≡ 0 = refl in
            let y : sum_by (λ (x : PeView C). at_start (lives_of g) run.starts x.me) [] ≡ 0 = refl in
            omega (arith, a, b, c, d, z, y);
        sent = λ g.
            let a = w.local.sent g in
            let f : PeView C → ℕ = sends_by step opened g in
            let b : sum_by f (pe ∷ []) ≡ f pe + sum_by f [] = sum_by-cons f pe [] in
            let c = sum_by-cons (λ (x : PeView C). at_start f run.starts x.me) pe [] in
            let d : at_start f run.starts pe.me ≡ f w.start = began f pe.me w.start w.started in
            let z : sum_by f [] ≡ 0 = refl in
            let y : sum_by (λ (x : PeView C). at_start f run.starts x.me) [] ≡ 0 = refl in
            omega (arith, a, b, c, d, z, y);
        matches = w.matches;
      }

  pub gathered_more : (ends : List (PeView C)) (seat : SeatView Parcel) (pe : PeView C) (other : SeatView Parcel) → Tied ends seat
      → IsSeated step opened count run pe other → HasHistories step fits pack opened pe → pe.me ≡ length ends
      → Tied (ends ++ pe ∷ []) (joined seat other)
  gathered_more ends seat pe other t w h next =
      record {
        own = t.own;
        share =
            let a = sum_by_push (λ (x : PeView C). share_at run.shares x.me) ends pe in
            let b : share_at run.shares pe.me ≡ other.seats = ap (λ o. option_map_or (λ n. n) o 0) w.share in
            omega (arith, t.share, a, b);
        histories = All-push (HasHistories step fits pack opened) ends pe t.histories h;
        in_order =
            let a : map (λ (x : PeView C). x.me) (ends ++ pe ∷ []) ≡ map (λ (x : PeView C). x.me) ends ++ pe.me ∷ [] = map-append (λ (x : PeView C). x.me) ends (pe ∷ []) in
            let b : range_with_len 0 (length ends + 1) ≡ range_with_len 0 (length ends) ++ range_with_len (0 + length ends) 1 = range_split 0 (length ends) 1 in
            let z : 0 + length ends ≡ pe.me = omega (arith, next) in
            let n : length (ends ++ pe ∷ []) ≡ length ends + 1 = length-append ends (pe ∷ []) in
            a ∙ (ap (λ v. v ++ pe.me ∷ []) t.in_order ∙ (ap (λ (v : ℕ). range_with_len 0 (length ends) ++ v ∷ []) (sym z) ∙ (sym b ∙ ap (range_with_len 0) (sym n))));
        ledger = both t.ledger w.ledger;
        letters = λ g.
            let a = t.letters g in
            let b = w.local.letters.conserved g in
            let c = sum_by_push (letters_of g) ends pe in
            let d = joined_all g t.ledger.came w.ledger.came in
            let e = joined_all g t.ledger.gone w.ledger.gone in
            let f = sum_by-append (weigh g) t.ledger.posted w.ledger.posted in
            let h = sum_by_push (λ (x : PeView C). at_start (letters_of g) run.starts x.me) ends pe in
            let i = began (letters_of g) pe.me w.start w.started in
            omega (arith, a, b, c, d, e, f, h, i);
        grown = All-push (λ (x : PeView C). count_before run.starts x.me ≤ x.count) ends pe t.grown (has_grown pe other w);
        numbered =
            let n : PeView C → List (ℕ × ℕ) = numbers_since run.starts in
            let a = map-append (λ (l : LetterView). l.id) t.ledger.posted w.ledger.posted in
            let b : flat_map n (ends ++ pe ∷ []) ≡ flat_map n ends ++ flat_map n (pe ∷ []) = flat_map-append n ends (pe ∷ []) in
            let c : flat_map n (pe ∷ []) ≡ n pe = append_none (n pe) in
            a ∙ (ap (λ v. v ++ map (λ (l : LetterView). l.id) w.ledger.posted) t.numbered ∙ (ap (λ v. flat_map n ends ++ v) (since pe other w ∙ sym c) ∙ sym b));
        lives = λ g steady.
            let a = t.lives g steady in
            let b = w.local.lives g steady in
            let c = sum_by_push (lives_of g) ends pe in
            let d = sum_by_push (λ (x : PeView C). at_start (lives_of g) run.starts x.me) ends pe in
            let e = began (lives_of g) pe.me w.start w.started in
            let i = lives_joined g t.ledger.came w.ledger.came in
            let j = lives_joined g t.ledger.gone w.ledger.gone in
            omega (arith, a, b, c, d, e, i, j);
        sent = λ g.
            let a = t.sent g in
            let b = w.local.sent g in
            let f : PeView C → ℕ = sends_by step opened g in
            let c : sum_by f (ends ++ pe ∷ []) ≡ sum_by f ends + f pe = sum_by_push f ends pe in
            let d = sum_by_push (λ (x : PeView C). at_start f run.starts x.me) ends pe in
            let e : at_start f run.starts pe.me ≡ f w.start = began f pe.me w.start w.started in
            let i = sends_joined step opened g t.ledger.came w.ledger.came in
            let j = sends_joined step opened g t.ledger.gone w.ledger.gone in
            let p : sum_by (λ l. g (message l)) (t.ledger.posted ++ w.ledger.posted) ≡ sum_by (λ l. g (message l)) t.ledger.posted + sum_by
            (λ l. g (message l)) w.ledger.posted = sum_by-append (λ (l : LetterView). g (message l)) t.ledger.posted w.ledger.posted in
            omega (arith, a, b, c, d, e, i, j, p);
        matches = both_match t.ledger w.ledger seat other (t.own ∙ sym w.own) t.matches w.matches;
      }
