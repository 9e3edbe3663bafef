-- What a PE may do in an event, case by case, and what an event may do to a world.
use Rattle.std.proofs.Common.{◌≡◌, ℕ, List, [], ◌∷◌, ◌++◌, Option, Some, None, Bool, true, false, Result, Ok, Err, arith, refl, sym, ◌∙◌, ap, subst, inl, inr}
use Rattle.std.specs.Prelude.{slice_get, slice_set, not, is_none, ◌==◌, MatchOption, if◌then◌else◌}
use Rattle.std.specs.Option.{option_map, option_and_then}
use Rattle.std.proofs.lemmas.Bool.Decides.{nat_tests}
use Rattle.std.proofs.lemmas.Option.{option_and_then_some}
use Rattle.chares.specs.declared.carried.Carried.TheVariants.{Letter, Element}
use Rattle.chares.specs.declared.note.Note.{Note}
use Rattle.chares.specs.declared.trace_entry.TraceEntry.{TraceEntry}
use Rattle.chares.specs.declared.trace_entry.TraceEntry.TheVariants.{Departed, Decided, Installed}
use Rattle.chares.specs.Elements.{ElementView, PackedView}
use Rattle.chares.specs.Letters.{LetterView}
use Rattle.chares.specs.Steps.{Step}
use Rattle.sync_board.specs.Boards.{BoardState, Decides, place_in}
use Rattle.pup_pack.specs.declared.error.PupError.{PupError}
use Rattle.pe_state.specs.Pes.{PeView, Parcel, Item, Acting, wanted, looked, front_address, front_parcel, gave_up, received, noted, resumed, resume_entries, departed, installed, executed, shelving, forwarding, passing, on_letter, installing, on_element, on_parcel, acting_on, acting, waits_for}
use Rattle.pe_state.specs.Rooms.{found}
use Rattle.pe_state.specs.declared.acted.Acted.TheVariants.{Installed as IsInstalled}
use Rattle.rts_core.specs.declared.event.Event.{Event}
use Rattle.rts_core.specs.declared.event.Event.TheVariants.{Start, Look, Flush, Deliver, Act, Report, Decide, Depart, Resume}
use Rattle.rts_core.specs.Events.{After, where_true, front_of, due, board_after, note_entries, look_event, flush_event, delivered, deliver_event, report_event, start_event, depart_event, resume_event, act_event, LocalView, pe_of, local_step, local_view, with_local, or_nothing, enabled, Happens, MayDecide}
use Rattle.rts_core.specs.Worlds.{WorldView}
use Rattle.rts_core.proofs.EventSteps.{where_some, some_same, none_is, front_is}

pub same_number : (a b : ℕ) → (a == b) ≡ true → a ≡ b
same_number a b h = grind (arith, nat_tests)

pub not_true : (b : Bool) → not b ≡ true → b ≡ false
not_true true h = cc
not_true false h = refl

-- something holds of what PE p sees after its step, in every case
pub record EachTurn {C A : Type 0} (step : Step C) (pack : C → List ℕ) (p : ℕ) (d : LocalView C A) (P : LocalView C A × List TraceEntry → Type 0) : Type 0 where
  pub starts : (e : ℕ) (el : ElementView C) → found e d.pe.room ≡ Some el → el.progress.started ≡ false
      → P (record d { pe = resumed step pack d.pe e 0 }, resume_entries step pack d.pe e 0)
  pub goes_on : (e round : ℕ) (el : ElementView C) → found e d.pe.room ≡ Some el → waits_for el ≡ Some round → place_in d.board round e ≡ Some p
      → P (record d { pe = resumed step pack d.pe e round }, resume_entries step pack d.pe e round)
  pub looks : (word : ℕ) → P (record d { pe = looked d.pe word }, [])
  pub flushes : (q : ℕ) (parcel : Parcel) (queue : List Parcel) → front_parcel d.pe.outbox ≡ Some parcel → slice_get d.queues q ≡ Some queue
      → P (record d { pe = gave_up d.pe; queues = slice_set d.queues q (queue ++ parcel ∷ []) }, [])
  pub delivers : (queue rest : List Parcel) (parcel : Parcel) → slice_get d.queues p ≡ Some queue → d.pe.hand ≡ None → queue ≡ parcel ∷ rest
      → P (record d { pe = received d.pe parcel; queues = slice_set d.queues p rest }, [])
  pub executes : (x : Item) (l : LetterView) (el : ElementView C) → d.pe.hand ≡ Some x → x.parcel ≡ Letter l → found l.to d.pe.room ≡ Some el → el.progress.started ≡ true
      → P (record d { pe = (executed step pack d.pe l).pe }, (executed step pack d.pe l).trace)
  pub shelves : (x : Item) (l : LetterView) → d.pe.hand ≡ Some x → x.parcel ≡ Letter l → P (record d { pe = (shelving d.pe l).pe }, (shelving d.pe l).trace)
  pub forwards : (x : Item) (l : LetterView) (q : ℕ) → d.pe.hand ≡ Some x → x.parcel ≡ Letter l → P (record d { pe = (forwarding d.pe l q).pe }, (forwarding d.pe l q).trace)
  pub installs : (x : Item) (packed : PackedView) (chare : C) → d.pe.hand ≡ Some x → x.parcel ≡ Element packed → found packed.index d.pe.room ≡ None
      → P (record d { pe = installed d.pe packed chare }, Installed packed.index ∷ [])
  pub reports : (note : Note) (board : BoardState A) → slice_get d.pe.notes 0 ≡ Some note → board_after d.board note ≡ Some board
      → P (record d { pe = noted d.pe; board = board }, note_entries note)
  pub departs : (e q : ℕ) (el : ElementView C) → found e d.pe.room ≡ Some el → P (record d { pe = departed pack d.pe e q; words = slice_set d.words e q }, Departed e ∷ [])

-- what follows from it holds in every case too
pub each_map : {C A : Type 0} (step : Step C) (pack : C → List ℕ) (p : ℕ) (d : LocalView C A) (P R : LocalView C A × List TraceEntry → Type 0)
    → ((a : LocalView C A × List TraceEntry) → P a → R a) → EachTurn step pack p d P → EachTurn step pack p d R
each_map step pack p d P R gives each =
    record {
      starts = λ e el at fresh. gives _ (each.starts e el at fresh);
      goes_on = λ e round el at waits place. gives _ (each.goes_on e round el at waits place);
      looks = λ word. gives _ (each.looks word);
      flushes = λ q parcel queue front at. gives _ (each.flushes q parcel queue front at);
      delivers = λ queue rest parcel at hand is. gives _ (each.delivers queue rest parcel at hand is);
      executes = λ x l el hand is at started. gives _ (each.executes x l el hand is at started);
      shelves = λ x l hand is. gives _ (each.shelves x l hand is);
      forwards = λ x l q hand is. gives _ (each.forwards x l q hand is);
      installs = λ x packed chare hand is at. gives _ (each.installs x packed chare hand is at);
      reports = λ note board at taken. gives _ (each.reports note board at taken);
      departs = λ e q el at. gives _ (each.departs e q el at);
    }

module _ {C A : Type 0} (step : Step C) (pack : C → List ℕ) (unpack : List ℕ → Result (C × ℕ) PupError) (p : ℕ) (d : LocalView C A)
    (P : LocalView C A × List TraceEntry → Type 0) (each : EachTurn step pack p d P) where
  -- ---- Act

  abbrev pub ActsSo : Acting C → Type 0
  ActsSo a = P (record d { pe = a.pe }, a.trace)

  pub passing_so : (x : Item) (l : LetterView) (look : Option ℕ) (a : Acting C) → d.pe.hand ≡ Some x → x.parcel ≡ Letter l → passing d.pe l look ≡ Some a → ActsSo a
  passing_so x l None a h is e = cc
  passing_so x l (Some q) a h is e =
      let s : (if q == d.pe.me then shelving d.pe l else forwarding d.pe l q) ≡ a = cc in
      subst (λ (v : Acting C). ActsSo v) s (by (q == d.pe.me))
    where
      by : (b : Bool) → ActsSo (if b then shelving d.pe l else forwarding d.pe l q)
      by true = each.shelves x l h is
      by false = each.forwards x l q h is

  pub letter_so : (x : Item) (l : LetterView) (look : Option ℕ) (o : Option (ElementView C)) (a : Acting C) → d.pe.hand ≡ Some x → x.parcel ≡ Letter l
      → found l.to d.pe.room ≡ o → on_letter step pack d.pe l look o ≡ Some a → ActsSo a
  letter_so x l look None a h is f e = passing_so x l look a h is e
  letter_so x l look (Some el) a h is f e = by el.progress.started refl e
    where
      by : (b : Bool) → el.progress.started ≡ b → (if b then Some (executed step pack d.pe l) else None) ≡ Some a → ActsSo a
      by true t s = let u : executed step pack d.pe l ≡ a = cc in subst (λ (v : Acting C). ActsSo v) u (each.executes x l el h is f t)
      by false t s = cc

  pub installing_so : (x : Item) (packed : PackedView) (u : Result (C × ℕ) PupError) (a : Acting C) → d.pe.hand ≡ Some x → x.parcel ≡ Element packed
      → found packed.index d.pe.room ≡ None → installing step pack unpack d.pe packed u ≡ Some a → ActsSo a
  installing_so x packed (Err z) a h is f e = cc
  installing_so x packed (Ok y) a h is f e =
      let t : record { acted = IsInstalled; pe = installed d.pe packed y.0; trace = Installed packed.index ∷ [] } ≡ a = cc in
      subst (λ (v : Acting C). ActsSo v) t (each.installs x packed y.0 h is f)

  pub element_so : (x : Item) (packed : PackedView) (o : Option (ElementView C)) (a : Acting C) → d.pe.hand ≡ Some x → x.parcel ≡ Element packed
      → found packed.index d.pe.room ≡ o → on_element step pack unpack d.pe packed o ≡ Some a → ActsSo a
  element_so x packed (Some el) a h is f e = cc
  element_so x packed None a h is f e = installing_so x packed (unpack packed.bytes) a h is f e

  pub parcel_so : (x : Item) (parcel : Parcel) (a : Acting C) → d.pe.hand ≡ Some x → x.parcel ≡ parcel → on_parcel step pack unpack d.pe parcel x.address ≡ Some a → ActsSo a
  parcel_so x (Letter l) a h is e = letter_so x l x.address (found l.to d.pe.room) a h is refl e
  parcel_so x (Element packed) a h is e = element_so x packed (found packed.index d.pe.room) a h is refl e

  pub hand_so : (o : Option Item) (a : Acting C) → d.pe.hand ≡ o → acting_on step pack unpack d.pe o ≡ Some a → ActsSo a
  hand_so None a h e = cc
  hand_so (Some x) a h e = parcel_so x x.parcel a h refl e

  pub act_event_so : (a : PeView C × List TraceEntry) → act_event step pack unpack d.pe ≡ Some a → P (record d { pe = a.0 }, a.1)
  act_event_so a h = by (acting step pack unpack d.pe) refl h
    where
      by : (o : Option (Acting C)) → acting step pack unpack d.pe ≡ o → option_map (λ (x : Acting C). (x.pe, x.trace)) o ≡ Some a → P (record d { pe = a.0 }, a.1)
      by None at s = cc
      by (Some x) at s = subst (λ (v : PeView C × List TraceEntry). P (record d { pe = v.0 }, v.1)) (some_same (x.pe, x.trace) a s) (hand_so d.pe.hand x refl at)

  -- ---- the others

  pub start_event_so : (e : ℕ) (a : PeView C × List TraceEntry) → start_event step pack d.pe e ≡ Some a → P (record d { pe = a.0 }, a.1)
  start_event_so e a h =
      option_and_then_some (λ (el : ElementView C). where_true (not el.progress.started)
      (Some (resumed step pack d.pe e 0, resume_entries step pack d.pe e 0))) (found e d.pe.room) a h
      (λ el at s.
      let both = where_some (not el.progress.started) (Some (resumed step pack d.pe e 0, resume_entries step pack d.pe e 0)) a s in
      subst (λ (v : PeView C × List TraceEntry). P (record d { pe = v.0 }, v.1)) (some_same (resumed step pack d.pe e 0, resume_entries step pack d.pe e 0) a both.1)
      (each.starts e el at (not_true el.progress.started both.0)))

  -- an element that is due: it is on the PE, and waits for the end of a round that is decided
  pub record IsDue (e round q : ℕ) : Type 0 where
    pub el : ElementView C
    pub stands : found e d.pe.room ≡ Some el
    pub waits : waits_for el ≡ Some round
    pub place : place_in d.board round e ≡ Some q

  pub is_due_at : (e : ℕ) (at : ℕ × ℕ) → due d.pe d.board e ≡ Some at → IsDue e at.0 at.1
  is_due_at e at h =
      option_and_then_some (λ (el : ElementView C). option_and_then
      (λ round. option_and_then (λ q. Some (round, q)) (place_in d.board round e)) (waits_for el)) (found e d.pe.room) at h
      (λ el is r.
      option_and_then_some (λ round. option_and_then (λ q. Some (round, q)) (place_in d.board round e)) (waits_for el) at r
      (λ round waits s.
      option_and_then_some (λ q. Some (round, q)) (place_in d.board round e) at s
      (λ q place t. subst (λ (v : ℕ × ℕ). IsDue e v.0 v.1) (some_same (round, q) at t) (record { el = el; stands = is; waits = waits; place = place }))))

  pub resume_event_so : (e : ℕ) (a : PeView C × List TraceEntry) → resume_event step pack p d.pe d.board e ≡ Some a → P (record d { pe = a.0 }, a.1)
  resume_event_so e a h =
      option_and_then_some (λ (at : ℕ × ℕ). where_true (at.1 == p) (Some (resumed step pack d.pe e at.0, resume_entries step pack d.pe e at.0))) (due d.pe d.board e) a h
      (λ at is s.
      let both = where_some (at.1 == p) (Some (resumed step pack d.pe e at.0, resume_entries step pack d.pe e at.0)) a s in
      let here : at.1 ≡ p = same_number at.1 p both.0 in
      let k : IsDue e at.0 at.1 = is_due_at e at is in
      subst (λ (v : PeView C × List TraceEntry). P (record d { pe = v.0 }, v.1)) (some_same (resumed step pack d.pe e at.0, resume_entries step pack d.pe e at.0) a both.1)
      (each.goes_on e at.0 k.el k.stands k.waits (k.place ∙ ap Some here)))

  pub depart_event_so : (e : ℕ) (a : PeView C × List ℕ × List TraceEntry) → depart_event step pack p d.pe d.words d.board e ≡ Some a → P (record d { pe = a.0; words = a.1 }, a.2)
  depart_event_so e a h =
      option_and_then_some (λ (at : ℕ × ℕ). where_true (not (at.1 == p)) (Some (departed pack d.pe e at.1, slice_set d.words e at.1, Departed e ∷ []))) (due d.pe d.board e) a h
      (λ at is s.
      let both = where_some (not (at.1 == p)) (Some (departed pack d.pe e at.1, slice_set d.words e at.1, Departed e ∷ [])) a s in
      let k : IsDue e at.0 at.1 = is_due_at e at is in
      subst (λ (v : PeView C × List ℕ × List TraceEntry). P (record d { pe = v.0; words = v.1 }, v.2))
      (some_same (departed pack d.pe e at.1, slice_set d.words e at.1, Departed e ∷ []) a both.1)
      (each.departs e at.1 k.el k.stands))

  pub looked_so : (a : PeView C) → look_event d.pe d.words ≡ Some a → P (record d { pe = a }, [])
  looked_so a h =
      option_and_then_some (λ e. option_and_then (λ word. Some (looked d.pe word)) (slice_get d.words e)) (wanted d.pe) a h
      (λ e is s.
      option_and_then_some (λ word. Some (looked d.pe word)) (slice_get d.words e) a s
      (λ word at t. subst (λ (v : PeView C). P (record d { pe = v }, [])) (some_same (looked d.pe word) a t) (each.looks word)))

  pub flush_event_so : (a : PeView C × List (List Parcel)) → flush_event d.pe d.queues ≡ Some a → P (record d { pe = a.0; queues = a.1 }, [])
  flush_event_so a h =
      option_and_then_some (λ q. option_and_then (λ parcel. option_and_then
      (λ queue. Some (gave_up d.pe, slice_set d.queues q (queue ++ parcel ∷ []))) (slice_get d.queues q)) (front_parcel d.pe.outbox))
      (front_address d.pe.outbox) a h
      (λ q is r.
      option_and_then_some (λ parcel. option_and_then (λ queue. Some (gave_up d.pe, slice_set d.queues q (queue ++ parcel ∷ [])))
      (slice_get d.queues q)) (front_parcel d.pe.outbox) a r
      (λ parcel front s.
      option_and_then_some (λ queue. Some (gave_up d.pe, slice_set d.queues q (queue ++ parcel ∷ []))) (slice_get d.queues q) a s
      (λ queue at t.
      subst (λ (v : PeView C × List (List Parcel)). P (record d { pe = v.0; queues = v.1 }, [])) (some_same (gave_up d.pe, slice_set d.queues q (queue ++ parcel ∷ [])) a t)
      (each.flushes q parcel queue front at))))

  pub delivered_so : (a : PeView C × List (List Parcel)) → deliver_event d.pe d.queues p ≡ Some a → P (record d { pe = a.0; queues = a.1 }, [])
  delivered_so a h =
      option_and_then_some (λ queue. option_and_then (λ after. Some (after.0, slice_set d.queues p after.1)) (delivered d.pe queue)) (slice_get d.queues p) a h
      (λ queue there s.
      option_and_then_some (λ (after : PeView C × List Parcel). Some (after.0, slice_set d.queues p after.1)) (delivered d.pe queue) a s
      (λ after is t.
      option_and_then_some (λ (front : Parcel × List Parcel). Some (received d.pe front.0, front.1)) (where_true (is_none d.pe.hand) (front_of queue)) after is
      (λ front fronts u.
      let both = where_some (is_none d.pe.hand) (front_of queue) front fronts in
      let same : (received d.pe front.0, front.1) ≡ after = some_same (received d.pe front.0, front.1) after u in
      subst (λ (v : PeView C × List (List Parcel)). P (record d { pe = v.0; queues = v.1 }, [])) (some_same (after.0, slice_set d.queues p after.1) a t)
      (subst (λ (v : PeView C × List Parcel). P (record d { pe = v.0; queues = slice_set d.queues p v.1 }, [])) same
      (each.delivers queue front.1 front.0 there (none_is d.pe.hand both.0) (front_is queue front both.1))))))

  pub report_event_so : (a : PeView C × BoardState A × List TraceEntry) → report_event d.pe d.board ≡ Some a → P (record d { pe = a.0; board = a.1 }, a.2)
  report_event_so a h =
      option_and_then_some (λ note. option_and_then (λ after. Some (noted d.pe, after, note_entries note)) (board_after d.board note)) (slice_get d.pe.notes 0) a h
      (λ note is s.
      option_and_then_some (λ after. Some (noted d.pe, after, note_entries note)) (board_after d.board note) a s
      (λ after at t.
      subst (λ (v : PeView C × BoardState A × List TraceEntry). P (record d { pe = v.0; board = v.1 }, v.2)) (some_same (noted d.pe, after, note_entries note) a t)
      (each.reports note after is at)))

  pub then_so : {X : Type 0} (o : Option X) (f : X → LocalView C A × List TraceEntry) (a : LocalView C A × List TraceEntry)
      → option_and_then (λ x. Some (f x)) o ≡ Some a → ((x : X) → o ≡ Some x → P (f x)) → P a
  then_so None f a h k = cc
  then_so (Some x) f a h k = subst P (some_same (f x) a h) (k x refl)

  -- each event of a PE
  pub local_so : (event : Event) (a : LocalView C A × List TraceEntry) → local_step step pack unpack event d ≡ Some a → pe_of event ≡ Some p → P a
  local_so (Start q e) a h of = then_so (start_event step pack d.pe e) (λ after. (record d { pe = after.0 }, after.1)) a h (start_event_so e)
  local_so (Look q) a h of = then_so (look_event d.pe d.words) (λ after. (record d { pe = after }, [])) a h looked_so
  local_so (Flush q) a h of = then_so (flush_event d.pe d.queues) (λ after. (record d { pe = after.0; queues = after.1 }, [])) a h flush_event_so
  local_so (Deliver q) a h of =
      let same : q ≡ p = some_same q p of in
      then_so (deliver_event d.pe d.queues p) (λ after. (record d { pe = after.0; queues = after.1 }, [])) a
      (subst (λ (v : ℕ). local_step step pack unpack (Deliver v) d ≡ Some a) same h) delivered_so
  local_so (Act q) a h of = then_so (act_event step pack unpack d.pe) (λ after. (record d { pe = after.0 }, after.1)) a h act_event_so
  local_so (Report q) a h of = then_so (report_event d.pe d.board) (λ after. (record d { pe = after.0; board = after.1 }, after.2)) a h report_event_so
  local_so Decide a h of = cc
  local_so (Depart q e) a h of =
      let same : q ≡ p = some_same q p of in
      then_so (depart_event step pack p d.pe d.words d.board e) (λ after. (record d { pe = after.0; words = after.1 }, after.2)) a
      (subst (λ (v : ℕ). local_step step pack unpack (Depart v e) d ≡ Some a) same h) (depart_event_so e)
  local_so (Resume q e) a h of =
      let same : q ≡ p = some_same q p of in
      then_so (resume_event step pack p d.pe d.board e) (λ after. (record d { pe = after.0 }, after.1)) a
      (subst (λ (v : ℕ). local_step step pack unpack (Resume v e) d ≡ Some a) same h) (resume_event_so e)

-- Something holds of the world after an event and its trace entries where it holds of the same world without trace
-- entries, of the step of each PE, and of a decision.
module _ {C A : Type 0} (step : Step C) (pack : C → List ℕ) (unpack : List ℕ → Result (C × ℕ) PupError) (w : WorldView C A) (Q : After C A → Type 0) where
  abbrev pub TurnsTo : ℕ → LocalView C A × List TraceEntry → Type 0
  TurnsTo p a = Q (with_local w p a.0, a.1)

  pub record EachEvent : Type 0 where
    pub same : Q (w, [])
    pub turn : (p : ℕ) (pe : PeView C) → slice_get w.pes p ≡ Some pe → EachTurn step pack p (local_view w pe) (TurnsTo p)
    pub decides : (board : BoardState A) → Decides w.board board → Q (record w { board = board }, Decided w.board.database.round ∷ [])

  module _ (each : EachEvent) where
    bound : {X : Type 0} (o : Option X) (f : X → Option (After C A)) → ((x : X) → o ≡ Some x → Q (or_nothing w (f x))) → Q (or_nothing w (option_and_then f o))
    bound None f h = each.same
    bound (Some x) f h = h x refl

    decided_so : (a : After C A) → MayDecide w.board a.0.board a.1 → a.0 ≡ record w { board = a.0.board } → Q a
    decided_so a (inl d) alone =
        subst (λ (v : List TraceEntry). Q (a.0, v)) (sym d.traced)
        (subst (λ (v : WorldView C A). Q (v, Decided w.board.database.round ∷ [])) (sym alone) (each.decides a.0.board d.decides))
    decided_so a (inr t) alone =
        let e : record w { board = a.0.board } ≡ w = ap (λ (v : BoardState A). record w { board = v }) t.same in
        subst (λ (v : List TraceEntry). Q (a.0, v)) (sym t.quiet) (subst (λ (v : WorldView C A). Q (v, [])) (sym (alone ∙ e)) each.same)

    pub happens_so : (event : Event) (a : After C A) → Happens step pack unpack w event a → Q a
    happens_so event a h = by (pe_of event) refl h
      where
        by : (o : Option ℕ) → pe_of event ≡ o
            → MatchOption o (MayDecide w.board a.0.board a.1 × (a.0 ≡ record w { board = a.0.board })) (λ p. a ≡ or_nothing w (enabled step pack unpack w event p))
            → Q a
        by None of k = decided_so a k.0 k.1
        by (Some p) of k =
            subst Q (sym k)
            (bound (slice_get w.pes p) (λ pe. option_and_then (λ after. Some (with_local w p after.0, after.1)) (local_step step pack unpack event (local_view w pe)))
            (λ pe at. bound (local_step step pack unpack event (local_view w pe)) (λ after. Some (with_local w p after.0, after.1))
            (λ after s. local_so step pack unpack p (local_view w pe) (TurnsTo p) (each.turn p pe at) event after s of)))
