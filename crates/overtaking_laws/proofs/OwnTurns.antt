-- What a PE may do in an event that leaves the queues alone, case by case: with the look that a letter has, the round that an element
-- waits for, and what is in the hand.
use Rattle.std.proofs.Common.{◌≡◌, ◌≢◌, ℕ, List, [], ◌∷◌, Option, Some, None, Bool, true, false, arith, refl, subst}
use Rattle.std.specs.Prelude.{Result, Ok, Err, ⊤, IfSome, slice_get, slice_set, nat_eq, not, ◌==◌, if◌then◌else◌}
use Rattle.std.specs.Option.{option_map, option_and_then}
use Rattle.std.proofs.lemmas.Bool.Decides.{nat_tests}
use Rattle.std.proofs.lemmas.Option.{option_and_then_some, same_Some}
use Rattle.sync_board.specs.Boards.{BoardState, place_in}
use Rattle.chares.specs.declared.carried.Carried.TheVariants.{Letter, Element}
use Rattle.chares.specs.declared.trace_entry.TraceEntry.{TraceEntry}
use Rattle.chares.specs.declared.trace_entry.TraceEntry.TheVariants.{Departed}
use Rattle.chares.specs.Elements.{ElementView, PackedView}
use Rattle.chares.specs.Letters.{LetterView}
use Rattle.chares.specs.Steps.{Step}
use Rattle.pup_pack.specs.declared.error.PupError.{PupError}
use Rattle.pe_state.specs.Pes.{PeView, Parcel, Item, Acting, wanted, looked, noted, resumed, resume_entries, departed, installed, executed, shelving, forwarding, passing, on_letter, on_element, installing, on_parcel, acting_on, acting, waits_for}
use Rattle.pe_state.specs.Rooms.{found}
use Rattle.rts_core.specs.declared.event.Event.{Event}
use Rattle.rts_core.specs.declared.event.Event.TheVariants.{Start, Look, Flush, Deliver, Act, Report, Decide, Depart, Resume}
use Rattle.rts_core.specs.Events.{LocalView, where_true, due, board_after, note_entries, look_event, report_event, start_event, depart_event, resume_event, act_event, local_step, pe_of}
use Rattle.rts_core.proofs.EventSteps.{where_some}
use Rattle.rts_core.proofs.Turns.{same_number}
use Rattle.event_laws.proofs.AgreeingEvents.{then_so}
use Rattle.overtaking_laws.specs.StampedRuns.{KeepsQueues}

-- the event acts on a hand
abbrev pub IsAct : Event → Type 0
IsAct (Act p) = ⊤
IsAct event = ⊥

abbrev pub IsCalm : Event → Type 0
IsCalm event = IsAct event → ⊥

-- the event lets this element leave a room or go on
abbrev pub Frees : Event → ℕ → Type 0
Frees (Depart p e) i = e ≡ i
Frees (Resume p e) i = e ≡ i
Frees event i = ⊥

-- an element of a room that is due: it waits for the end of a round, and has this place in the decision
pub record IsDue {C A : Type 0} (pe : PeView C) (b : BoardState A) (e round q : ℕ) : Type 0 where
  pub el : ElementView C
  pub stands : found e pe.room ≡ Some el
  pub waits : waits_for el ≡ Some round
  pub place : place_in b round e ≡ Some q

due_at : {C A : Type 0} (pe : PeView C) (b : BoardState A) (e : ℕ) (at : ℕ × ℕ) → due pe b e ≡ Some at → IsDue pe b e at.0 at.1
due_at {C} pe b e at h =
    option_and_then_some (λ (el : ElementView C). option_and_then
    (λ round. option_and_then (λ q. Some (round, q)) (place_in b round e)) (waits_for el)) (found e pe.room) at h
    (λ el is r.
    option_and_then_some (λ round. option_and_then (λ q. Some (round, q)) (place_in b round e)) (waits_for el) at r
    (λ round waits s.
    option_and_then_some (λ q. Some (round, q)) (place_in b round e) at s
    (λ q place t. subst (λ (v : ℕ × ℕ). IsDue pe b e v.0 v.1) (same_Some (round, q) at t) (record { el = el; stands = is; waits = waits; place = place }))))

-- a parcel of this kind is in the hand
pub record IsInHand {C : Type 0} (pe : PeView C) (parcel : Parcel) (address : Option ℕ) : Type 0 where
  pub item : Item
  pub hand : pe.hand ≡ Some item
  pub is : item.parcel ≡ parcel
  pub at : item.address ≡ address

module _ {C A : Type 0} (step : Step C) (pack : C → List ℕ) (unpack : List ℕ → Result (C × ℕ) PupError) (event : Event) (p : ℕ) (d : LocalView C A) (P : PeView C → Type 0) where
  -- something holds of PE p after the event, in every case
  pub record EachOwnTurn : Type 0 where
    pub starts : (e : ℕ) (el : ElementView C) → IsCalm event → found e d.pe.room ≡ Some el → P (resumed step pack d.pe e 0)
    pub goes_on : (e round : ℕ) → IsCalm event → Frees event e → IsDue d.pe d.board e round p → P (resumed step pack d.pe e round)
    pub departs : (e round q : ℕ) → IsCalm event → Frees event e → IsDue d.pe d.board e round q → P (departed pack d.pe e q)
    pub looks : (e word : ℕ) → IsCalm event → wanted d.pe ≡ Some e → slice_get d.words e ≡ Some word → P (looked d.pe word)
    pub executes : (l : LetterView) (o : Option ℕ) (el : ElementView C) → IsAct event → IsInHand d.pe (Letter l) o → found l.to d.pe.room ≡ Some el
        → P (executed step pack d.pe l).pe
    pub shelves : (l : LetterView) (q : ℕ) → IsAct event → IsInHand d.pe (Letter l) (Some q) → q ≡ d.pe.me → P (shelving d.pe l).pe
    pub forwards : (l : LetterView) (q : ℕ) → IsAct event → IsInHand d.pe (Letter l) (Some q) → q ≢ d.pe.me → P (forwarding d.pe l q).pe
    pub installs : (x : PackedView) (o : Option ℕ) (chare : C) → IsAct event → IsInHand d.pe (Element x) o → P (installed d.pe x chare)
    pub reports : IsCalm event → P (noted d.pe)

  module _ (each : EachOwnTurn) where
    start_so : IsCalm event → (e : ℕ) (a : PeView C × List TraceEntry) → start_event step pack d.pe e ≡ Some a → P a.0
    start_so calm e a s =
        option_and_then_some (λ (el : ElementView C). where_true (not el.progress.started)
        (Some (resumed step pack d.pe e 0, resume_entries step pack d.pe e 0))) (found e d.pe.room) a s
        (λ el at t.
        let both = where_some (not el.progress.started) (Some (resumed step pack d.pe e 0, resume_entries step pack d.pe e 0)) a t in
        subst (λ (v : PeView C × List TraceEntry). P v.0)
        (same_Some (resumed step pack d.pe e 0, resume_entries step pack d.pe e 0) a both.1) (each.starts e el calm at))

    resume_so : IsCalm event → (e : ℕ) → Frees event e → (a : PeView C × List TraceEntry) → resume_event step pack p d.pe d.board e ≡ Some a → P a.0
    resume_so calm e frees a s =
        option_and_then_some (λ (at : ℕ × ℕ). where_true (at.1 == p)
        (Some (resumed step pack d.pe e at.0, resume_entries step pack d.pe e at.0))) (due d.pe d.board e) a s
        (λ at is t.
        let both = where_some (at.1 == p) (Some (resumed step pack d.pe e at.0, resume_entries step pack d.pe e at.0)) a t in
        let x : IsDue d.pe d.board e at.0 p = subst (IsDue d.pe d.board e at.0) (same_number at.1 p both.0) (due_at d.pe d.board e at is) in
        subst (λ (v : PeView C × List TraceEntry). P v.0)
        (same_Some (resumed step pack d.pe e at.0, resume_entries step pack d.pe e at.0) a both.1) (each.goes_on e at.0 calm frees x))

    depart_so : IsCalm event → (e : ℕ) → Frees event e → (a : PeView C × List ℕ × List TraceEntry) → depart_event step pack p d.pe d.words d.board e ≡ Some a → P a.0
    depart_so calm e frees a s =
        option_and_then_some (λ (at : ℕ × ℕ). where_true (not (at.1 == p))
        (Some (departed pack d.pe e at.1, slice_set d.words e at.1, Departed e ∷ []))) (due d.pe d.board e) a s
        (λ at is t.
        let both = where_some (not (at.1 == p)) (Some (departed pack d.pe e at.1, slice_set d.words e at.1, Departed e ∷ [])) a t in
        subst (λ (v : PeView C × List ℕ × List TraceEntry). P v.0)
        (same_Some (departed pack d.pe e at.1, slice_set d.words e at.1, Departed e ∷ []) a both.1)
        (each.departs e at.0 at.1 calm frees (due_at d.pe d.board e at is)))

    report_so : IsCalm event → (a : PeView C × BoardState A × List TraceEntry) → report_event d.pe d.board ≡ Some a → P a.0
    report_so calm a s =
        option_and_then_some (λ note. option_and_then (λ after. Some (noted d.pe, after, note_entries note)) (board_after d.board note))
        (slice_get d.pe.notes 0) a s
        (λ note is t.
        option_and_then_some (λ after. Some (noted d.pe, after, note_entries note)) (board_after d.board note) a t
        (λ after taken u. subst (λ (v : PeView C × BoardState A × List TraceEntry). P v.0) (same_Some (noted d.pe, after, note_entries note) a u) (each.reports calm)))

    look_so : IsCalm event → (a : PeView C) → look_event d.pe d.words ≡ Some a → P a
    look_so calm a s =
        option_and_then_some (λ e. option_and_then (λ word. Some (looked d.pe word)) (slice_get d.words e)) (wanted d.pe) a s
        (λ e wants t.
        option_and_then_some (λ word. Some (looked d.pe word)) (slice_get d.words e) a t
        (λ word at u. subst P (same_Some (looked d.pe word) a u) (each.looks e word calm wants at)))

    -- ---- Act

    passing_so : (l : LetterView) (o : Option ℕ) → IsAct event → IsInHand d.pe (Letter l) o → IfSome (passing d.pe l o) (λ a. P a.pe)
    passing_so l None acts held = tt
    passing_so l (Some q) acts held = by (nat_eq q d.pe.me) refl
      where
        by : (c : Bool) → nat_eq q d.pe.me ≡ c → P (if c then shelving d.pe l else forwarding d.pe l q).pe
        by true t = let here : q ≡ d.pe.me = grind (arith, nat_tests) in each.shelves l q acts held here
        by false t = let other : q ≢ d.pe.me = grind (arith, nat_tests) in each.forwards l q acts held other

    letter_so : (l : LetterView) (o : Option ℕ) → IsAct event → IsInHand d.pe (Letter l) o → (stands : Option (ElementView C)) → found l.to d.pe.room ≡ stands
        → IfSome (on_letter step pack d.pe l o stands) (λ a. P a.pe)
    letter_so l o acts held (Some el) at = by el.progress.started
      where
        by : (c : Bool) → IfSome (if c then Some (executed step pack d.pe l) else None) (λ a. P a.pe)
        by true = each.executes l o el acts held at
        by false = tt
    letter_so l o acts held None at = passing_so l o acts held

    element_so : (x : PackedView) (o : Option ℕ) → IsAct event → IsInHand d.pe (Element x) o → (stands : Option (ElementView C))
        → IfSome (on_element step pack unpack d.pe x stands) (λ a. P a.pe)
    element_so x o acts held (Some el) = tt
    element_so x o acts held None = by (unpack x.bytes)
      where
        by : (r : Result (C × ℕ) PupError) → IfSome (installing step pack unpack d.pe x r) (λ a. P a.pe)
        by (Err error) = tt
        by (Ok y) = each.installs x o y.0 acts held

    hand_so : IsAct event → (o : Option Item) → d.pe.hand ≡ o → IfSome (acting_on step pack unpack d.pe o) (λ a. P a.pe)
    hand_so acts None hand = tt
    hand_so acts (Some item) hand = by item.parcel refl
      where
        by : (parcel : Parcel) → item.parcel ≡ parcel → IfSome (on_parcel step pack unpack d.pe parcel item.address) (λ a. P a.pe)
        by (Letter l) is = letter_so l item.address acts (record { item = item; hand = hand; is = is; at = refl }) (found l.to d.pe.room) refl
        by (Element x) is = element_so x item.address acts (record { item = item; hand = hand; is = is; at = refl }) (found x.index d.pe.room)

    act_so : IsAct event → (a : PeView C × List TraceEntry) → act_event step pack unpack d.pe ≡ Some a → P a.0
    act_so acts a s = by (acting step pack unpack d.pe) (hand_so acts d.pe.hand refl) s
      where
        by : (o : Option (Acting C)) → IfSome o (λ x. P x.pe) → option_map (λ (x : Acting C). (x.pe, x.trace)) o ≡ Some a → P a.0
        by None k t = cc
        by (Some x) k t = subst (λ (v : PeView C × List TraceEntry). P v.0) (same_Some (x.pe, x.trace) a t) k

-- ---- each event

module _ {C A : Type 0} (step : Step C) (pack : C → List ℕ) (unpack : List ℕ → Result (C × ℕ) PupError) (p : ℕ) (d : LocalView C A) (P : PeView C → Type 0) where
  abbrev After : LocalView C A × List TraceEntry → Type 0
  After a = P a.0.pe

  pub own_turn_so : (event : Event) (a : LocalView C A × List TraceEntry) → EachOwnTurn step pack unpack event p d P → KeepsQueues event → pe_of event ≡ Some p
      → local_step step pack unpack event d ≡ Some a → After a
  own_turn_so (Start q e) a each keeps of s =
      then_so After (start_event step pack d.pe e) (λ after. (record d { pe = after.0 }, after.1)) a s (start_so step pack unpack (Start q e) p d P each (λ acts. acts) e)
  own_turn_so (Look q) a each keeps of s =
      then_so After (look_event d.pe d.words) (λ after. (record d { pe = after }, [])) a s (look_so step pack unpack (Look q) p d P each (λ acts. acts))
  own_turn_so (Flush q) a each keeps of s = absurd keeps
  own_turn_so (Deliver q) a each keeps of s = absurd keeps
  own_turn_so (Act q) a each keeps of s =
      then_so After (act_event step pack unpack d.pe) (λ after. (record d { pe = after.0 }, after.1)) a s (act_so step pack unpack (Act q) p d P each tt)
  own_turn_so (Report q) a each keeps of s =
      then_so After (report_event d.pe d.board) (λ after. (record d { pe = after.0; board = after.1 }, after.2)) a s
      (report_so step pack unpack (Report q) p d P each (λ acts. acts))
  own_turn_so Decide a each keeps of s = cc
  own_turn_so (Depart q e) a each keeps of s =
      let same : q ≡ p = same_Some q p of in
      then_so After (depart_event step pack p d.pe d.words d.board e) (λ after. (record d { pe = after.0; words = after.1 }, after.2)) a
      (subst (λ (v : ℕ). local_step step pack unpack (Depart v e) d ≡ Some a) same s) (depart_so step pack unpack (Depart q e) p d P each (λ acts. acts) e refl)
  own_turn_so (Resume q e) a each keeps of s =
      let same : q ≡ p = same_Some q p of in
      then_so After (resume_event step pack p d.pe d.board e) (λ after. (record d { pe = after.0 }, after.1)) a
      (subst (λ (v : ℕ). local_step step pack unpack (Resume v e) d ≡ Some a) same s) (resume_so step pack unpack (Resume q e) p d P each (λ acts. acts) e refl)
