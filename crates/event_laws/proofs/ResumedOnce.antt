-- No element is resumed twice for a round.
use Rattle.std.proofs.Common.{◌≡◌, ℕ, zero, suc, ◌+◌, ◌<◌, ◌≤◌, List, [], ◌∷◌, length, Bool, true, false, Option, Some, None, sum_by, arith, refl, sym, subst}
use Rattle.std.specs.Prelude.{Result, All, IfSome, nat_eq, ◌==◌, if◌then◌else◌}
use Rattle.std.specs.List.{range_with_len}
use Rattle.std.specs.Map.{values_of}
use Rattle.std.proofs.lemmas.Bool.Decides.{nat_tests}
use Rattle.std.proofs.lemmas.List.Elements.{All-head, All-tail}
use Rattle.std.proofs.lemmas.List.Sums.{sum_by-cons}
use Rattle.chares.specs.declared.carried.Carried.TheVariants.{Letter, Element}
use Rattle.chares.specs.declared.trace_entry.TraceEntry.{TraceEntry}
use Rattle.chares.specs.Elements.{ElementView}
use Rattle.chares.specs.Letters.{Done}
use Rattle.chares.specs.Steps.{Step}
use Rattle.chares.specs.Orders.{resumptions}
use Rattle.chares.specs.Elements.{IsElementInOrder}
use Rattle.pup_pack.specs.declared.error.PupError.{PupError}
use Rattle.pe_state.specs.Pes.{PeView, Parcel, Item}
use Rattle.rts_core.specs.declared.event.Event.{Event}
use Rattle.rts_core.specs.Accounts.{times}
use Rattle.rts_core.specs.Events.{After}
use Rattle.rts_core.specs.Places.{Life}
use Rattle.rts_core.specs.Runs.{Reaches}
use Rattle.rts_core.specs.Worlds.{WorldView, opening_world}
use Rattle.rts_core.proofs.RunAccount.{unlived}
use Rattle.rts_core.proofs.Listings.{no_letter}
use Rattle.rts_core.proofs.OpeningWeights.{opened_lives, opening_of, opening_weighs, one_at, opened_later}
use Rattle.rts_core.proofs.RunLaws.{by_index, Kept, run_keeps}
use Rattle.rts_core.proofs.Weights.{of_parcel, of_item, of_hand, of_element, of_pe, of_queue, of_world}
use Rattle.event_laws.specs.Barrier.{is_resumed}
use Rattle.rts_core.specs.Orders.{IsParcelInOrder, HasOrder, AreInOrder}
use Rattle.event_laws.proofs.Resumptions.{resumed_in}
use Rattle.event_laws.proofs.OrderedRounds.{FitsInOrder, PackedInOrder, AllOrdered, order_kept, are_in_order}
use Rattle.event_laws.proofs.RunResumptions.{WorldGains, run_gains}
use Rattle.rts_core.proofs.EachElement.{run_kept, opening_kept}
use Rattle.event_laws.proofs.Tallies.{one, times-cons}
use Rattle.sync_board.specs.declared.strategy.Strategy.{Strategy}

-- each number is at most once among consecutive numbers
pub range_past : (a n r : ℕ) → r < a → times (λ s. s == r) (range_with_len a n) ≡ 0
range_past a zero r lt = refl
range_past a (suc n) r lt =
    let b : times (λ s. s == r) (a ∷ range_with_len (a + 1) n) ≡ one (λ s. s == r) a + times (λ s. s == r)
    (range_with_len (a + 1) n) = times-cons (λ s. s == r) a (range_with_len (a + 1) n) in
    let z : one (λ s. s == r) a ≡ 0 = grind (arith, nat_tests) in
    omega (arith, b, z, range_past (a + 1) n r (omega (arith, lt)))

pub range_once : (a n r : ℕ) → times (λ s. s == r) (range_with_len a n) ≤ 1
range_once a zero r = omega arith
range_once a (suc n) r = by (nat_eq a r) refl (range_once (a + 1) n r)
  where
    by : (b : Bool) → nat_eq a r ≡ b → times (λ s. s == r) (range_with_len (a + 1) n) ≤ 1 → times (λ s. s == r) (a ∷ range_with_len (a + 1) n) ≤ 1
    by true t later =
        let is : a ≡ r = grind (arith, nat_tests) in
        let b = times-cons (λ s. s == r) a (range_with_len (a + 1) n) in
        let z : one (λ s. s == r) a ≡ 1 = rw t refl in
        let past = range_past (a + 1) n r (omega (arith, is)) in
        omega (arith, b, z, past)
    by false t later =
        let b = times-cons (λ s. s == r) a (range_with_len (a + 1) n) in
        let z : one (λ s. s == r) a ≡ 0 = rw t refl in
        omega (arith, b, z, later)

-- each index once among the elements that open
pub opened_once_each : {C : Type 0} (e i : ℕ) (chares : List C) → sum_by (λ x. one_at e x.0) (opened_lives i chares) ≤ 1
opened_once_each {C} e i [] = let z : sum_by (λ (x : Life). one_at e x.0) (opened_lives {C = C} i []) ≡ 0 = refl in omega (arith, z)
opened_once_each {C} e i (chare ∷ chares) = by (nat_eq i e) refl (opened_once_each e (i + 1) chares)
  where
    by : (b : Bool) → nat_eq i e ≡ b → sum_by (λ (x : Life). one_at e x.0) (opened_lives (i + 1) chares) ≤ 1
        → sum_by (λ (x : Life). one_at e x.0) ((i, []) ∷ opened_lives (i + 1) chares) ≤ 1
    by true t later =
        let is : i ≡ e = grind (arith, nat_tests) in
        let a = sum_by-cons (λ (x : Life). one_at e x.0) (i, []) (opened_lives (i + 1) chares) in
        let o : one_at e i ≡ 1 = rw t refl in
        let z = opened_later e (i + 1) chares (omega (arith, is)) in
        omega (arith, a, o, z)
    by false t later =
        let a = sum_by-cons (λ (x : Life). one_at e x.0) (i, []) (opened_lives (i + 1) chares) in
        let o : one_at e i ≡ 0 = rw t refl in
        omega (arith, a, o, later)

pub sum_le : {X : Type 0} (P : X → Type 0) (f g : X → ℕ) → ((x : X) → P x → f x ≤ g x) → (xs : List X) → All P xs → sum_by f xs ≤ sum_by g xs
sum_le P f g le [] all = let a : sum_by f [] ≡ 0 = refl in omega (arith, a)
sum_le P f g le (x ∷ xs) all =
    let a = sum_by-cons f x xs in
    let b = sum_by-cons g x xs in
    let c = le x (All-head P x xs all) in
    let d = sum_le P f g le xs (All-tail P x xs all) in
    omega (arith, a, b, c, d)

-- Where all rounds come in order, an element has been resumed for a round at most as often as the element is
-- there.
module _ (e r : ℕ) where
  where_le : (b : Bool) (t : ℕ) → t ≤ 1 → (if b then t else 0) ≤ (if b then 1 else 0)
  where_le true t h = h
  where_le false t h = omega arith

  journal_le : (b : Bool) (n : ℕ) (journal : List Done) → resumptions journal ≡ (if b then range_with_len 0 n else []) → times (λ s. s == r) (resumptions journal) ≤ 1
  journal_le true n journal h = subst (λ (v : List ℕ). times (λ s. s == r) v ≤ 1) (sym h) (range_once 0 n r)
  journal_le false n journal h = subst (λ (v : List ℕ). times (λ s. s == r) v ≤ 1) (sym h) (let z : times (λ (s : ℕ). s == r) [] ≡ 0 = refl in omega (arith, z))

  abbrev pub known : Life → ℕ
  known = by_index (one_at e)

  element_le : {C : Type 0} (el : ElementView C) → IsElementInOrder el → of_element no_letter (resumed_in e r) el ≤ of_element no_letter known el
  element_le el h = where_le (el.index == e) (times (λ s. s == r) (resumptions el.journal)) (journal_le el.progress.started (el.progress.round + 1) el.journal h.resumed)

  parcel_le : (parcel : Parcel) → IsParcelInOrder parcel → of_parcel no_letter (resumed_in e r) parcel ≤ of_parcel no_letter known parcel
  parcel_le (Letter l) h = omega arith
  parcel_le (Element p) h = where_le (p.index == e) (times (λ s. s == r) (resumptions p.journal)) (journal_le p.progress.started (p.progress.round + 1) p.journal h.resumed)

  hand_le : (hand : Option Item) → IfSome hand (λ x. IsParcelInOrder x.parcel) → of_hand no_letter (resumed_in e r) hand ≤ of_hand no_letter known hand
  hand_le None h = omega arith
  hand_le (Some x) h = parcel_le x.parcel h

  pe_le : {C : Type 0} (pe : PeView C) → HasOrder pe → of_pe no_letter (resumed_in e r) pe ≤ of_pe no_letter known pe
  pe_le {C} pe h =
      let a = hand_le pe.hand h.hand in
      let b = sum_le (λ (x : Item). IsParcelInOrder x.parcel) (of_item no_letter (resumed_in e r)) (of_item no_letter known) (λ x. parcel_le x.parcel) pe.outbox h.outbox in
      let c = sum_le (IsElementInOrder {C = C}) (of_element no_letter (resumed_in e r)) (of_element no_letter known) element_le (values_of pe.room) h.room in
      omega (arith, a, b, c)

  pub world_le : {C A : Type 0} (w : WorldView C A) → AreInOrder w → of_world no_letter (resumed_in e r) w ≤ of_world no_letter known w
  world_le {C} w h =
      let a = sum_le (HasOrder {C = C}) (of_pe no_letter (resumed_in e r)) (of_pe no_letter known) pe_le w.pes h.pes in
      let b = sum_le (All IsParcelInOrder) (of_queue no_letter (resumed_in e r)) (of_queue no_letter known)
      (sum_le IsParcelInOrder (of_parcel no_letter (resumed_in e r)) (of_parcel no_letter known) parcel_le) w.queues h.queues in
      omega (arith, a, b)

  resumed_none : (i : ℕ) → resumed_in e r (i, []) ≡ 0
  resumed_none i = by (i == e)
    where
      by : (b : Bool) → ◌≡◌ {A = ℕ} (if b then 0 else 0) 0
      by true = refl
      by false = refl

  module _ {C A : Type 0} (pes : ℕ) (chares : List C) (strategy : Strategy) (some : 1 ≤ pes) where
    abbrev opened : WorldView C A
    opened = opening_world pes chares strategy

    -- a world whose journals have gained since the opening what its trace says
    pub once_gained : (w : WorldView C A) (trace : List TraceEntry) → AllOrdered w → WorldGains opened (w, trace) → Kept (length chares) opened w trace
        → times (is_resumed e r) trace ≤ 1
    once_gained w trace ordered gained kept =
        let a = gained e r in
        let b = opening_weighs A pes chares strategy some no_letter (resumed_in e r) in
        let c = unlived (resumed_in e r) resumed_none 0 chares in
        let d = world_le w (are_in_order w ordered) in
        let f : of_world no_letter known w ≡ of_world no_letter known opened = kept.stands (one_at e) in
        let g = opening_weighs A pes chares strategy some no_letter known in
        let h : sum_by known (opened_lives 0 chares) ≤ 1 = opened_once_each e 0 chares in
        omega (arith, a, b, c, d, f, g, h)

    module _ (step : Step C) (pack : C → List ℕ) (unpack : List ℕ → Result (C × ℕ) PupError) where
      pub resumed_once : (events : List Event) (last : After C A) → Reaches step pack unpack opened events last → times (is_resumed e r) last.1 ≤ 1
      resumed_once events last run =
          let opens : AllOrdered opened = opening_kept step pack FitsInOrder PackedInOrder (order_kept step pack) A pes chares strategy in
          once_gained last.0 last.1
          (run_kept step pack FitsInOrder PackedInOrder (order_kept step pack) unpack opened events last opens run)
          (run_gains step pack unpack opened events last opens run)
          (run_keeps step pack unpack (length chares) opened events last (opening_of A pes chares strategy some) run)
