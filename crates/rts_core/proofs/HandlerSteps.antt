-- What a handler keeps, and each case of Act and Depart.
use Rattle.std.proofs.Common.{◌≡◌, ℕ, ◌+◌, List, [], ◌∷◌, ◌++◌, map, Option, Some, None, sum_by, arith, refl}
use Rattle.std.specs.Prelude.{All, unwrap_or}
use Rattle.std.specs.Option.{option_map, option_to_list}
use Rattle.std.specs.BTreeMap.{is_at}
use Rattle.std.specs.Ordering.{nat_cmp}
use Rattle.std.proofs.lemmas.List.Elements.{All-nil}
use Rattle.std.proofs.lemmas.List.Sums.{sum_by-cons, sum_by-append}
use Rattle.std.proofs.lemmas.Map.Entries.{sum_by-set_value, sum_by-remove_entry}
use Rattle.chares.specs.declared.carried.Carried.TheVariants.{Letter}
use Rattle.chares.specs.declared.entry.Entry.TheVariants.{Resumption}
use Rattle.chares.specs.declared.trace_entry.TraceEntry.{TraceEntry}
use Rattle.chares.specs.declared.trace_entry.TraceEntry.TheVariants as Trace
use Rattle.chares.specs.Elements.{ElementView, ran, outcome_of, packed}
use Rattle.chares.specs.Letters.{LetterView, Done}
use Rattle.chares.specs.Posting.{letter_to, letters_of, posts_of}
use Rattle.chares.specs.Steps.{Step}
use Rattle.pe_state.specs.Pes.{PeView, Item, element_at, departed, handled, handler_posts, resumed, resume_entries}
use Rattle.pe_state.specs.Rooms.{found, changed, without}
use Rattle.rts_core.specs.Places.{Life, life_of, letters_of_entry}
use Rattle.rts_core.specs.Accounts.{Said, posts, executions}
use Rattle.rts_core.proofs.Weights.{Weight, weigh, of_item, of_hand, of_element, of_room, of_pe, sum_by-map}
use Rattle.rts_core.proofs.Moves.{numbered, Moved, quiet}

-- the letters that are posted weigh what the outbox gains, and are those of the trace entries
pub box_gains : (g : Weight) (k : Life → ℕ) (me count : ℕ) (ss : List (ℕ × List ℕ)) → sum_by (of_item g k) (letters_of me count ss) ≡ sum_by (weigh g) (numbered me count ss)
box_gains g k me count [] = refl
box_gains g k me count (s ∷ ss) =
    let item : Item = record { parcel = Letter (letter_to me count s.0 s.1); address = None } in
    let a : sum_by (of_item g k) (item ∷ letters_of me (count + 1) ss) ≡ of_item g k item + sum_by (of_item g k)
    (letters_of me (count + 1) ss) = sum_by-cons (of_item g k) item (letters_of me (count + 1) ss) in
    let b : sum_by (weigh g) (letter_to me count s.0 s.1 ∷ numbered me (count + 1) ss) ≡ weigh g (letter_to me count s.0 s.1) + sum_by
    (weigh g) (numbered me (count + 1) ss) = sum_by-cons (weigh g) (letter_to me count s.0 s.1) (numbered me (count + 1) ss) in
    let ih = box_gains g k me (count + 1) ss in
    omega (arith, a, b, ih)

pub posts_told : (r : Said → ℕ) (me count : ℕ) (ss : List (ℕ × List ℕ)) → sum_by r (posts (posts_of me count ss)) ≡ sum_by (λ l. r (l.id, l.to)) (numbered me count ss)
posts_told r me count [] = refl
posts_told r me count (s ∷ ss) =
    let l : LetterView = letter_to me count s.0 s.1 in
    let a : sum_by r ((l.id, l.to) ∷ posts (posts_of me (count + 1) ss)) ≡ r (l.id, l.to) + sum_by r
    (posts (posts_of me (count + 1) ss)) = sum_by-cons r (l.id, l.to) (posts (posts_of me (count + 1) ss)) in
    let b : sum_by (λ x. r (x.id, x.to)) (l ∷ numbered me (count + 1) ss) ≡ r (l.id, l.to) + sum_by (λ x. r (x.id, x.to))
    (numbered me (count + 1) ss) = sum_by-cons (λ x. r (x.id, x.to)) l (numbered me (count + 1) ss) in
    let ih = posts_told r me (count + 1) ss in
    omega (arith, a, b, ih)

pub posts_execute_nothing : (me count : ℕ) (ss : List (ℕ × List ℕ)) → executions (posts_of me count ss) ≡ []
posts_execute_nothing me count [] = refl
posts_execute_nothing me count (s ∷ ss) = posts_execute_nothing me (count + 1) ss

module _ {C : Type 0} (step : Step C) (pack : C → List ℕ) where
  pub handled_weighs : (g : Weight) (k : Life → ℕ) (pe : PeView C) (e : ℕ) (done : Done) (hand : Option Item) (el : ElementView C)
      → found e pe.room ≡ Some el
      → of_hand g k hand + sum_by (weigh g) (letters_of_entry done) ≡ of_hand g k pe.hand
      → of_pe g k (handled step pack pe e done hand) + (sum_by (weigh g) (letters_of_entry done) + (k (life_of el) + 0))
      ≡ of_pe g k pe + (sum_by (weigh g) (numbered pe.me pe.count (outcome_of step pack el pe.n done).sends) + (k (el.index, el.journal ++ done ∷ []) + 0))
  handled_weighs g k pe e done hand el h hands =
      let ss : List (ℕ × List ℕ) = (outcome_of step pack el pe.n done).sends in
      let a : sum_by (of_item g k) (pe.outbox ++ letters_of pe.me pe.count ss) ≡ sum_by (of_item g k) pe.outbox + sum_by (of_item g k)
      (letters_of pe.me pe.count ss) = sum_by-append (of_item g k) pe.outbox (letters_of pe.me pe.count ss) in
      let b : sum_by (of_item g k) (letters_of pe.me pe.count ss) ≡ sum_by (weigh g) (numbered pe.me pe.count ss) = box_gains g k pe.me pe.count ss in
      let c : of_room g k (changed e (ran step pack el pe.n pe.me done) pe.room) + k (life_of el) ≡ of_room g k pe.room + k
      (el.index, el.journal ++ done ∷ []) = sum_by-set_value (of_element g k) (is_at (nat_cmp e)) pe.room el (ran step pack el pe.n pe.me done) h in
      rw h (omega (arith, a, b, c, hands))

  pub handled_moved : (pe : PeView C) (e : ℕ) (done : Done) (hand : Option Item) (el : ElementView C) (first : TraceEntry)
      → found e pe.room ≡ Some el
      → ((g : Weight) (k : Life → ℕ) → of_hand g k hand + sum_by (weigh g) (letters_of_entry done) ≡ of_hand g k pe.hand)
      → posts (first ∷ []) ≡ []
      → executions (first ∷ []) ≡ map (λ l. (l.id, l.to)) (letters_of_entry done)
      → All (λ l. l.to ≡ e) (letters_of_entry done)
      → Moved step pe (handled step pack pe e done hand) (first ∷ handler_posts step pack pe e done) (Some (el, done)) [] []
  handled_moved pe e done hand el first h hands no_post execution own =
      let ss : List (ℕ × List ℕ) = (outcome_of step pack el pe.n done).sends in
      record {
        weighs = λ g k. handled_weighs g k pe e done hand el h (hands g k);
        stood = (e, h, own);
        tells_posts = λ r.
            let p : posts (first ∷ posts_of pe.me pe.count ss) ≡ posts (first ∷ []) ++ posts (posts_of pe.me pe.count ss) = cases_posts first (posts_of pe.me pe.count ss) in
            rw h (rw (p, no_post) (posts_told r pe.me pe.count ss));
        tells_executions = λ r.
            let p : executions (first ∷ posts_of pe.me pe.count ss) ≡ executions (first ∷ [])
            ++ executions (posts_of pe.me pe.count ss) = cases_executions first (posts_of pe.me pe.count ss) in
            let n : executions (posts_of pe.me pe.count ss) ≡ [] = posts_execute_nothing pe.me pe.count ss in
            let a : sum_by r (map (λ l. (l.id, l.to)) (letters_of_entry done) ++ []) ≡ sum_by r
            (map (λ l. (l.id, l.to)) (letters_of_entry done)) + sum_by r [] = sum_by-append r (map (λ l. (l.id, l.to)) (letters_of_entry done)) [] in
            let b = sum_by-map r (λ (l : LetterView). (l.id, l.to)) (letters_of_entry done) in
            rw h (rw (p, execution, n) (omega (arith, a, b)));
        same_me = refl;
        same_n = refl;
        counted = rw h refl;
      }
    where
      cases_posts : (x : TraceEntry) (xs : List TraceEntry) → posts (x ∷ xs) ≡ posts (x ∷ []) ++ posts xs
      cases_posts (Trace.Posted id to) xs = refl
      cases_posts (Trace.Executed id e) xs = refl
      cases_posts (Trace.Resumed e r) xs = refl
      cases_posts (Trace.Shelved id) xs = refl
      cases_posts (Trace.Forwarded id) xs = refl
      cases_posts (Trace.Installed e) xs = refl
      cases_posts (Trace.Synced e r) xs = refl
      cases_posts (Trace.Decided r) xs = refl
      cases_posts (Trace.Departed e) xs = refl

      cases_executions : (x : TraceEntry) (xs : List TraceEntry) → executions (x ∷ xs) ≡ executions (x ∷ []) ++ executions xs
      cases_executions (Trace.Posted id to) xs = refl
      cases_executions (Trace.Executed id e) xs = refl
      cases_executions (Trace.Resumed e r) xs = refl
      cases_executions (Trace.Shelved id) xs = refl
      cases_executions (Trace.Forwarded id) xs = refl
      cases_executions (Trace.Installed e) xs = refl
      cases_executions (Trace.Synced e r) xs = refl
      cases_executions (Trace.Decided r) xs = refl
      cases_executions (Trace.Departed e) xs = refl

  -- Start and Resume
  pub resumed_moved : (pe : PeView C) (e round : ℕ) (el : ElementView C) → found e pe.room ≡ Some el
      → Moved step pe (resumed step pack pe e round) (resume_entries step pack pe e round) (Some (el, Resumption round)) [] []
  resumed_moved pe e round el h = handled_moved pe e (Resumption round) pe.hand el (Trace.Resumed e round) h (λ g k. omega arith) refl refl (All-nil (λ (l : LetterView). l.to ≡ e))

  -- Depart
  pub departed_weighs : (g : Weight) (k : Life → ℕ) (pe : PeView C) (e q : ℕ) (o : Option (ElementView C)) → found e pe.room ≡ o
      → of_room g k (without e pe.room) + sum_by (of_item g k) (option_to_list (option_map (element_at q) (option_map (packed pack) o))) ≡ of_room g k pe.room
  departed_weighs g k pe e q None h =
      let a : of_room g k (without e pe.room) + unwrap_or (option_map (of_element g k) (found e pe.room)) 0 ≡ of_room g k
      pe.room = sum_by-remove_entry (of_element g k) (is_at (nat_cmp e)) pe.room in
      let b : unwrap_or (option_map (of_element g k) (found e pe.room)) 0 ≡ 0 = rw h refl in
      omega (arith, a, b)
  departed_weighs g k pe e q (Some el) h =
      let a : of_room g k (without e pe.room) + unwrap_or (option_map (of_element g k) (found e pe.room)) 0 ≡ of_room g k
      pe.room = sum_by-remove_entry (of_element g k) (is_at (nat_cmp e)) pe.room in
      let b : unwrap_or (option_map (of_element g k) (found e pe.room)) 0 ≡ k (life_of el) = rw h refl in
      let c : sum_by (of_item g k) (element_at q (packed pack el) ∷ []) ≡ k (life_of el) + 0 = sum_by-cons (of_item g k) (element_at q (packed pack el)) [] in
      omega (arith, a, b, c)

  pub departed_moved : (pe : PeView C) (e q : ℕ) → Moved step pe (departed pack pe e q) (Trace.Departed e ∷ []) None [] []
  departed_moved pe e q =
      quiet step pe (departed pack pe e q) (Trace.Departed e ∷ []) [] []
      (λ g k.
      let out : List Item = option_to_list (option_map (element_at q) (option_map (packed pack) (found e pe.room))) in
      let a = departed_weighs g k pe e q (found e pe.room) refl in
      let b : sum_by (of_item g k) (pe.outbox ++ out) ≡ sum_by (of_item g k) pe.outbox + sum_by (of_item g k) out = sum_by-append (of_item g k) pe.outbox out in
      omega (arith, a, b))
      refl refl refl refl refl
