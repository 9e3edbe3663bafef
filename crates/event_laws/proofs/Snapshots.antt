-- What the snapshot of a decided round holds of each element of the world in which it is decided.
use Rattle.std.proofs.Common.{◌≡◌, ℕ, zero, suc, ◌+◌, ◌<◌, ◌≤◌, List, [], ◌∷◌, ◌++◌, length, map, get_or, Option, Some, None, Bool, true, false, Result, sum_by, arith, refl, sym, ◌∙◌, ap, subst, inl, inr}
use Rattle.std.specs.Prelude.{All, Contains, IfSome, MatchOption, cond, slice_get}
use Rattle.std.specs.Map.{values_of}
use Rattle.std.specs.Ordering.{nat_cmp, is_eq}
use Rattle.std.proofs.lemmas.List.Elements.{All-head, All-tail}
use Rattle.std.proofs.lemmas.List.Sums.{sum_by-cons}
use Rattle.pup_pack.specs.declared.error.PupError.{PupError}
use Rattle.sync_board.specs.Boards.{BoardState, Kept, kept_of}
use Rattle.lb_snapshot.specs.Measured.{Taken}
use Rattle.lb_database.specs.Measuring.{Measured, IsComplete, IsSnapshotOf, report_of}
use Rattle.chares.specs.declared.carried.Carried.TheVariants.{Letter, Element}
use Rattle.chares.specs.declared.note.Mark.TheVariants.{Synced}
use Rattle.chares.specs.declared.note.Note.TheVariants.{Sync}
use Rattle.chares.specs.declared.trace_entry.TraceEntry.{TraceEntry}
use Rattle.chares.specs.declared.trace_entry.TraceEntry.TheVariants.{Decided}
use Rattle.chares.specs.Elements.{ElementView}
use Rattle.chares.specs.Steps.{Step}
use Rattle.pe_state.specs.Pes.{PeView, Parcel, Item}
use Rattle.pe_state.specs.Rooms.{found}
use Rattle.rts_core.specs.declared.event.Event.{Event}
use Rattle.rts_core.specs.Events.{After, pe_of, or_nothing, enabled, Happens, MayDecide}
use Rattle.rts_core.specs.Runs.{Reaches}
use Rattle.rts_core.specs.Worlds.{WorldView, opening_world}
use Rattle.rts_core.proofs.Listings.{no_letter, sum_zero}
use Rattle.rts_core.proofs.OpeningWeights.{one_at, one_elsewhere}
use Rattle.rts_core.proofs.RunLaws.{by_index}
use Rattle.rts_core.proofs.Weights.{of_parcel, of_item, of_hand, of_element, of_pe, of_queue, weigh}
use Rattle.rts_core.proofs.Rooms.{at_place}
use Rattle.event_laws.specs.Agreement.{HasReported, AgreesWith, AgreesOn, AgreesAt, Agrees, IsTakenOf}
use Rattle.event_laws.proofs.Rooms.{is_same, of_found, AreKeyed, Key, found_index}
use Rattle.event_laws.proofs.AgreeingHandlers.{ItemAgrees}
use Rattle.event_laws.proofs.Reporting.{count_in}
use Rattle.event_laws.proofs.ReportEvent.{OnePlace}
use Rattle.event_laws.proofs.Deciding.{not_silent, each_reported}
use Rattle.event_laws.proofs.AgreeingEvents.{Sound, run_sound, opening_sound}
use Rattle.event_laws.proofs.OnlyDecide.{Others, none_among, enabled_others}
use Rattle.sync_board.specs.declared.strategy.Strategy.{Strategy}

-- ---- lists

-- where a list weighs something, a member does
pub some_member : {X : Type 0} (f : X → ℕ) (xs : List X) → 1 ≤ sum_by f xs → (i : ℕ) × (x : X) × (slice_get xs i ≡ Some x) × (1 ≤ f x)
some_member f [] le = let z : sum_by f [] ≡ 0 = refl in absurd (omega (arith, le, z))
some_member f (x ∷ xs) le = by (f x) refl (some_member f xs)
  where
    by : (k : ℕ) → f x ≡ k → (1 ≤ sum_by f xs → (i : ℕ) × (y : _) × (slice_get xs i ≡ Some y) × (1 ≤ f y)) → (i : ℕ) × (y : _) × (slice_get (x ∷ xs) i ≡ Some y) × (1 ≤ f y)
    by zero s rest =
        let c : sum_by f (x ∷ xs) ≡ f x + sum_by f xs = sum_by-cons f x xs in
        let r = rest (omega (arith, c, s, le)) in
        (suc r.0, r.1, r.2, r.3)
    by (suc k) s rest = (0, x, refl, omega (arith, s))

-- where each member weighs nothing, the list does
pub all_zero : {X : Type 0} (f : X → ℕ) (xs : List X) → All (λ x. f x ≡ 0) xs → sum_by f xs ≡ 0
all_zero f [] all = refl
all_zero {X} f (x ∷ xs) all =
    let c : sum_by f (x ∷ xs) ≡ f x + sum_by f xs = sum_by-cons f x xs in
    let a : f x ≡ 0 = All-head (λ (y : X). f y ≡ 0) x xs all in
    let b = all_zero f xs (All-tail (λ (y : X). f y ≡ 0) x xs all) in
    omega (arith, c, a, b)

-- a size that is in the reports is in the snapshot
pub size_at : (sizes : List (ℕ × ℕ)) (e : ℕ) (size : ℕ × ℕ) → get_or (map Some sizes) e None ≡ Some size → slice_get sizes e ≡ Some size
size_at [] e size h = cc
size_at (x ∷ sizes) zero size h = h
size_at (x ∷ sizes) (suc e) size h = size_at sizes e size h

-- what is kept last
pub kept_last : {A : Type 0} (rounds : List (Kept A)) (kept : Kept A) → slice_get (rounds ++ kept ∷ []) (length rounds) ≡ Some kept
kept_last [] kept = refl
kept_last (x ∷ rounds) kept = kept_last rounds kept

kept_next : {A : Type 0} (rounds : List (Kept A)) (kept : Kept A) (r : ℕ) → r ≡ length rounds + 1 → kept_of (rounds ++ kept ∷ []) r ≡ Some kept
kept_next rounds kept zero s = absurd (omega (arith, s))
kept_next rounds kept (suc r) s =
    let k : r ≡ length rounds = omega (arith, s) in
    ap (slice_get (rounds ++ kept ∷ [])) k ∙ kept_last rounds kept

-- an index that is counted in a room is found there
pub counts_found : {C : Type 0} (e : ℕ) (room : List (ℕ × ElementView C)) → AreKeyed room → 1 ≤ count_in e room → (el : ElementView C) × (found e room ≡ Some el)
counts_found {C} e [] keyed le = let z : count_in {C = C} e [] ≡ 0 = refl in absurd (omega (arith, le, z))
counts_found {C} e (p ∷ room) keyed le = by (is_eq (nat_cmp e p.0)) refl (counts_found e room (All-tail Key p room keyed))
  where
    by : (b : Bool) → is_eq (nat_cmp e p.0) ≡ b → (1 ≤ count_in e room → (el : ElementView C) × (found e room ≡ Some el))
        → (el : ElementView C) × (cond b (Some p.1) (found e room) ≡ Some el)
    by true t rest = (p.1, refl)
    by false t rest =
        let i : p.1.index ≡ p.0 = All-head Key p room keyed in
        let z : one_at e p.1.index ≡ 0 = one_elsewhere e p.1.index (λ q. apart (q ∙ i)) in
        let c : count_in e (p ∷ room) ≡ one_at e p.1.index + count_in e room = sum_by-cons (of_element no_letter (by_index (one_at e))) p.1 (values_of room) in
        rest (omega (arith, c, z, le))
      where
        apart : e ≡ p.0 → ⊥
        apart q =
            let r : is_eq (nat_cmp e p.0) ≡ true = subst (λ (v : ℕ). is_eq (nat_cmp e v) ≡ true) q (is_same e) in
            cc

-- ---- a world in which every element has reported

module _ {C A : Type 0} (n : ℕ) (w : WorldView C A) (h : Agrees n w) (one : OnePlace n w) (complete : IsComplete w.board.database) where
  abbrev pub m : Measured
  m = w.board.database

  module _ (e : ℕ) (lt : e < n) where
    -- no parcel is an element
    parcel_zero : (parcel : Parcel) → AgreesOn m parcel → of_parcel no_letter (by_index (one_at e)) parcel ≡ 0
    parcel_zero (Letter l) k = refl
    parcel_zero (Element p) k = absurd (not_silent m n h.measured complete p.index k.0 k.2.silent)

    hand_zero : (o : Option Item) → IfSome o (ItemAgrees m) → of_hand no_letter (by_index (one_at e)) o ≡ 0
    hand_zero None k = refl
    hand_zero (Some x) k = parcel_zero x.parcel k

    queues_zero : sum_by (of_queue no_letter (by_index (one_at e))) w.queues ≡ 0
    queues_zero =
        all_zero (of_queue no_letter (by_index (one_at e))) w.queues
        (λ k d inside. all_zero (of_parcel no_letter (by_index (one_at e))) _ (λ i x below. parcel_zero _ (h.queues k d inside i x below)))

    -- so the element is in a room
    on_pe : (p : ℕ) × (pe : PeView C) × (slice_get w.pes p ≡ Some pe) × (1 ≤ of_pe no_letter (by_index (one_at e)) pe)
    on_pe =
        let o : sum_by (of_pe no_letter (by_index (one_at e))) w.pes + sum_by (of_queue no_letter (by_index (one_at e))) w.queues ≡ 1 = one e lt in
        let z = queues_zero in
        some_member (of_pe no_letter (by_index (one_at e))) w.pes (omega (arith, o, z))

    in_room : (pe : PeView C) → AgreesAt m pe → 1 ≤ of_pe no_letter (by_index (one_at e)) pe → 1 ≤ count_in e pe.room
    in_room pe k le =
        let parts : 1 ≤ of_hand no_letter (by_index (one_at e))
        pe.hand + (sum_by (of_item no_letter (by_index (one_at e))) pe.outbox + (sum_by (weigh no_letter) pe.shelf + count_in e pe.room)) = le in
        let a = hand_zero pe.hand k.hand in
        let b : sum_by (of_item no_letter (by_index (one_at e))) pe.outbox ≡ 0 = all_zero (of_item no_letter (by_index (one_at e)))
        pe.outbox (λ i x below. parcel_zero _ (k.outbox i x below)) in
        let c : sum_by (weigh no_letter) pe.shelf ≡ 0 = sum_zero pe.shelf in
        omega (arith, parts, a, b, c)

    -- and the snapshot has it as its mark does
    pub taken_of : (snapshot : Taken) → IsSnapshotOf m m.round w.board.pes snapshot → IsTakenOf w snapshot e m.round
    taken_of snapshot s = by on_pe.0 on_pe.1 on_pe.2 on_pe.3
      where
        by : (p : ℕ) (pe : PeView C) → slice_get w.pes p ≡ Some pe → 1 ≤ of_pe no_letter (by_index (one_at e)) pe → IsTakenOf w snapshot e m.round
        by p pe at le =
            let here : AgreesAt m pe = at_place (AgreesAt m) w.pes p pe h.pes at in
            let f : (x : ElementView C) × (found e pe.room ≡ Some x) = counts_found e pe.room here.keyed (in_room pe here le) in
            let el : ElementView C = f.0 in
            let i : el.index ≡ e = found_index e el pe.room here.keyed f.1 in
            let k : HasReported m pe.me el = each_reported m n h.measured complete pe.me pe.notes el (of_found (AgreesWith m pe.me pe.notes) e el pe.room here.room f.1) in
            let me : pe.me ≡ p = h.places p pe at in
            let report : report_of m e ≡ Some (k.bytes, p) = subst (λ (v : ℕ). report_of m e ≡ Some (k.bytes, v)) me
            (subst (λ (v : ℕ). report_of m v ≡ Some (k.bytes, pe.me)) i k.reported) in
            record {
              p = p;
              pe = pe;
              el = el;
              load = k.units;
              bytes = k.bytes;
              at = at;
              stands = f.1;
              sized = size_at snapshot.sizes e (k.bytes, p) (subst (λ (v : List (Option (ℕ × ℕ))). get_or v e None ≡ Some (k.bytes, p)) (sym s.sizes_reported) report);
              loaded = subst (λ (v : List ℕ). slice_get v e ≡ Some k.units) (sym s.loads_charged) (subst (λ (v : ℕ). slice_get m.loads v ≡ Some k.units) i k.charged);
              marked = subst (λ (v : ℕ). Contains el.marks (Synced (Sync e m.round k.units k.bytes v))) me
                  (subst (λ (v : ℕ). Contains el.marks (Synced (Sync v m.round k.units k.bytes pe.me))) i k.marked);
            }

-- what is said of the snapshot of a round
abbrev pub Snapped : {C A : Type 0} → ℕ → WorldView C A → BoardState A → ℕ → Type 0
Snapped {C} {A} n w b r = (kept : Kept A) × (kept_of b.rounds r ≡ Some kept) × ((e : ℕ) → e < n → IsTakenOf w kept.0 e r)

module _ {C A : Type 0} (step : Step C) (pack : C → List ℕ) (unpack : List ℕ → Result (C × ℕ) PupError) (n : ℕ) (w : WorldView C A) (s : Sound n w) where
  decided_number : (m r : ℕ) → Contains (Decided m ∷ []) (Decided r) → m ≡ r
  decided_number m r (zero, lt, is) = let k : Decided m ≡ Decided r = is in cc
  decided_number m r (suc k, lt, is) = absurd (omega (arith, lt))

  may_snap : (b : BoardState A) (reports : List TraceEntry) (r : ℕ) → Contains reports (Decided r) → MayDecide w.board b reports → Snapped n w b r
  may_snap b reports r here (inr t) =
      let none : Contains [] (Decided r) = subst (λ (v : List TraceEntry). Contains v (Decided r)) t.quiet here in
      absurd (nothing none)
    where
      nothing : Contains [] (Decided r) → ⊥
      nothing (k, lt, is) = omega (arith, lt)
  may_snap b reports r here (inl d) =
      let same : w.board.database.round ≡ r = decided_number w.board.database.round r (subst (λ (v : List TraceEntry). Contains v (Decided r)) d.traced here) in
      let k : kept_of (w.board.rounds ++ d.decides.kept ∷ []) r ≡ Some d.decides.kept = kept_next w.board.rounds d.decides.kept r (sym same ∙ s.agrees.numbered) in (
        d.decides.kept,
        subst (λ (v : BoardState A). kept_of v.rounds r ≡ Some d.decides.kept) (sym d.decides.next) k,
        λ e lt. subst (λ (v : ℕ). IsTakenOf w d.decides.kept.0 e v) same (taken_of n w s.agrees s.one d.decides.complete e lt d.decides.kept.0 d.decides.reported),
      )

  pub event_snaps : (event : Event) (next : After C A) (r : ℕ) → Happens step pack unpack w event next → Contains next.1 (Decided r) → Snapped n w next.0.board r
  event_snaps event next r happens here = by (pe_of event) happens
    where
      by : (o : Option ℕ)
          → MatchOption o (MayDecide w.board next.0.board next.1 × (next.0 ≡ record w { board = next.0.board })) (λ p. next ≡ or_nothing w (enabled step pack unpack w event p))
          → Snapped n w next.0.board r
      by None d = may_snap next.0.board next.1 r here d.0
      by (Some p) e = absurd (none_among next.1 r (subst (λ (v : After C A). Others v.1) (sym e) (enabled_others step pack unpack w event p)) here)

module _ {C A : Type 0} (step : Step C) (pack : C → List ℕ) (unpack : List ℕ → Result (C × ℕ) PupError) (pes : ℕ) (chares : List C) (strategy : Strategy) (some : 1 ≤ pes) where
  -- after every list of events
  pub run_snaps : (events : List Event) (w : WorldView C A) (trace : List TraceEntry) (event : Event) (next : After C A) (r : ℕ)
      → Reaches step pack unpack (opening_world pes chares strategy) events (w, trace) → Happens step pack unpack w event next
      → Contains next.1 (Decided r) → Snapped (length chares) w next.0.board r
  run_snaps events w trace event next r run happens here =
      event_snaps step pack unpack (length chares) w
      (run_sound step pack unpack (length chares) (opening_world pes chares strategy) events (w, trace) (opening_sound step pack unpack pes chares strategy some) run)
      event next r happens here
