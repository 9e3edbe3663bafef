-- A PE and the board still agree after a parcel has come, gone or been looked up.
use Rattle.std.proofs.Common.{◌≡◌, ◌≢◌, ℕ, ◌+◌, List, [], ◌∷◌, ◌++◌, length, map, Option, Some, None, Bool, true, false, Result, Ok, Err, arith, refl, sym, ◌∙◌, subst, inr, nat_eq}
use Rattle.std.specs.Prelude.{All, IfSome, slice_get, slice_set, is_none, not, ◌==◌, if◌then◌else◌}
use Rattle.std.specs.Option.{option_map, option_and_then, option_to_list}
use Rattle.std.specs.Ordering.{nat_cmp}
use Rattle.std.specs.BTreeMap.{is_at}
use Rattle.std.proofs.lemmas.Bool.Decides.{nat_tests}
use Rattle.std.proofs.lemmas.List.Elements.{All-nil, All-cons, All-head, All-tail, All-append, All-push, All-drop, All-set, All-weaker}
use Rattle.std.proofs.lemmas.Map.Views.{All-values-insert_entry, All-map-remove_entry}
use Rattle.std.proofs.lemmas.Option.{option_and_then_some, same_Some}
use Rattle.pup_pack.specs.declared.error.PupError.{PupError}
use Rattle.sync_board.specs.Boards.{BoardState}
use Rattle.lb_database.specs.Measuring.{Measured}
use Rattle.chares.specs.declared.carried.Carried.TheVariants.{Letter, Element}
use Rattle.chares.specs.declared.note.Note.{Note}
use Rattle.chares.specs.declared.trace_entry.TraceEntry.{TraceEntry}
use Rattle.chares.specs.declared.trace_entry.TraceEntry.TheVariants.{Departed}
use Rattle.chares.specs.Elements.{ElementView, PackedView, packed, unpacked}
use Rattle.chares.specs.Letters.{LetterView}
use Rattle.chares.specs.Steps.{Step}
use Rattle.pe_state.specs.Pes.{PeView, Parcel, Item, Acting, letter_at, element_at, front_parcel, front_address, wanted, hand_wants, looked, looked_in, received, gave_up, executed, shelving, forwarding, passing, installed, installing, on_letter, on_element, on_parcel, acting_on, acting, departed}
use Rattle.pe_state.specs.Rooms.{found, joined, without}
use Rattle.rts_core.specs.Events.{where_true, front_of, look_event, flush_event, delivered, deliver_event, due, depart_event, act_event}
use Rattle.rts_core.proofs.EventSteps.{where_some, front_is}
use Rattle.rts_core.proofs.Rooms.{at_place}
use Rattle.event_laws.specs.Agreement.{Owes, WaitsForPlace, AgreesWith, AgreesOn, IsOwed, AgreesAt}
use Rattle.event_laws.proofs.Rooms.{joined_other, without_other, places_joined, places_without, Key, of_found}
use Rattle.event_laws.proofs.AgreeingHandlers.{ItemAgrees, IsDue, due_waits, owes_none_decided, letter_agrees}
use Rattle.event_laws.proofs.Addressing.{at_hand, at_front}

pub if_some : {X : Type 0} (P : X → Type 0) (o : Option X) (x : X) → IfSome o P → o ≡ Some x → P x
if_some P None x h e = cc
if_some P (Some y) x h e = subst P (same_Some y x e) h

front_agrees : (m : Measured) (outbox : List Item) → All (ItemAgrees m) outbox → IfSome (front_parcel outbox) (AgreesOn m)
front_agrees m [] h = tt
front_agrees m (x ∷ xs) h = All-head (ItemAgrees m) x xs h

unshelved_agree : (m : Measured) (q : ℕ) (letters : List LetterView) → All (ItemAgrees m) (map (letter_at q) letters)
unshelved_agree m q [] = All-nil (ItemAgrees m)
unshelved_agree m q (l ∷ letters) = All-cons (ItemAgrees m) (letter_at q l) (map (letter_at q) letters) tt (unshelved_agree m q letters)

module _ {C : Type 0} (m : Measured) where
  -- Look
  looked_in_agrees : (pe : PeView C) (q : ℕ) (o : Option ℕ) → AgreesAt m pe → AgreesAt m (looked_in pe q o)
  looked_in_agrees pe q (Some e) h =
      record { keyed = h.keyed; room = h.room; notes = h.notes; once = h.once; hand = at_hand (AgreesOn m) q pe.hand h.hand; outbox = h.outbox }
  looked_in_agrees pe q None h =
      record { keyed = h.keyed; room = h.room; notes = h.notes; once = h.once; hand = h.hand; outbox = at_front (AgreesOn m) q pe.outbox h.outbox }

  pub look_event_agrees : (pe : PeView C) (words : List ℕ) (a : PeView C) → AgreesAt m pe → look_event pe words ≡ Some a → AgreesAt m a
  look_event_agrees pe words a h s =
      option_and_then_some (λ e. option_and_then (λ word. Some (looked pe word)) (slice_get words e)) (wanted pe) a s
      (λ e is t.
      option_and_then_some (λ word. Some (looked pe word)) (slice_get words e) a t
      (λ word at u. subst (AgreesAt m) (same_Some (looked pe word) a u) (looked_in_agrees pe word (hand_wants pe) h)))

  -- Flush
  pub gave_up_agrees : (pe : PeView C) → AgreesAt m pe → AgreesAt m (gave_up pe)
  gave_up_agrees pe h =
      record { keyed = h.keyed; room = h.room; notes = h.notes; once = h.once; hand = h.hand; outbox = All-drop (ItemAgrees m) 1 pe.outbox h.outbox }

  pub flush_event_agrees : (pe : PeView C) (queues : List (List Parcel)) (a : PeView C × List (List Parcel)) → AgreesAt m pe
      → All (All (AgreesOn m)) queues → flush_event pe queues ≡ Some a → AgreesAt m a.0 × All (All (AgreesOn m)) a.1
  flush_event_agrees pe queues a h k s =
      option_and_then_some (λ q. option_and_then (λ parcel. option_and_then
      (λ queue. Some (gave_up pe, slice_set queues q (queue ++ parcel ∷ []))) (slice_get queues q)) (front_parcel pe.outbox)) (front_address pe.outbox) a s
      (λ q is r.
      option_and_then_some (λ parcel. option_and_then (λ queue. Some (gave_up pe, slice_set queues q (queue ++ parcel ∷ []))) (slice_get queues q)) (front_parcel pe.outbox) a r
      (λ parcel front t.
      option_and_then_some (λ queue. Some (gave_up pe, slice_set queues q (queue ++ parcel ∷ []))) (slice_get queues q) a t
      (λ queue at u.
      subst (λ (v : PeView C × List (List Parcel)). AgreesAt m v.0 × All (All (AgreesOn m)) v.1) (same_Some (gave_up pe, slice_set queues q (queue ++ parcel ∷ [])) a u) (
        gave_up_agrees pe h,
        All-set (All (AgreesOn m)) queues q (queue ++ parcel ∷ [])
            (All-push (AgreesOn m) queue parcel (at_place (All (AgreesOn m)) queues q queue k at)
            (if_some (AgreesOn m) (front_parcel pe.outbox) parcel (front_agrees m pe.outbox h.outbox) front)) k,
      ))))

  -- Deliver
  pub received_agrees : (pe : PeView C) (parcel : Parcel) → AgreesAt m pe → AgreesOn m parcel → AgreesAt m (received pe parcel)
  received_agrees pe parcel h k = record { keyed = h.keyed; room = h.room; notes = h.notes; once = h.once; hand = k; outbox = h.outbox }

  pub delivered_agrees : (pe : PeView C) (queue : List Parcel) (a : PeView C × List Parcel) → AgreesAt m pe → All (AgreesOn m) queue
      → delivered pe queue ≡ Some a → AgreesAt m a.0 × All (AgreesOn m) a.1
  delivered_agrees pe queue a h k s =
      option_and_then_some (λ (front : Parcel × List Parcel). Some (received pe front.0, front.1)) (where_true (is_none pe.hand) (front_of queue)) a s
      (λ front is t.
      let both = where_some (is_none pe.hand) (front_of queue) front is in
      let all : All (AgreesOn m) (front.0 ∷ front.1) = subst (All (AgreesOn m)) (front_is queue front both.1) k in
      subst (λ (v : PeView C × List Parcel). AgreesAt m v.0 × All (AgreesOn m) v.1) (same_Some (received pe front.0, front.1) a t)
      (received_agrees pe front.0 h (All-head (AgreesOn m) front.0 front.1 all), All-tail (AgreesOn m) front.0 front.1 all))

  pub deliver_event_agrees : (pe : PeView C) (queues : List (List Parcel)) (p : ℕ) (a : PeView C × List (List Parcel)) → AgreesAt m pe
      → All (All (AgreesOn m)) queues → deliver_event pe queues p ≡ Some a → AgreesAt m a.0 × All (All (AgreesOn m)) a.1
  deliver_event_agrees pe queues p a h k s =
      option_and_then_some (λ queue. option_and_then (λ after. Some (after.0, slice_set queues p after.1)) (delivered pe queue)) (slice_get queues p) a s
      (λ queue there t.
      option_and_then_some (λ (after : PeView C × List Parcel). Some (after.0, slice_set queues p after.1)) (delivered pe queue) a t
      (λ after is u.
      let both = delivered_agrees pe queue after h (at_place (All (AgreesOn m)) queues p queue k there) is in
      subst (λ (v : PeView C × List (List Parcel)). AgreesAt m v.0 × All (All (AgreesOn m)) v.1) (same_Some (after.0, slice_set queues p after.1) a u)
      (both.0, All-set (All (AgreesOn m)) queues p after.1 both.1 k)))

  -- Act, on an element that arrives
  -- one that is found is not the one that has just come
  still_owed_joined : (me : ℕ) (room : List (ℕ × ElementView C)) (e : ℕ) (x : ElementView C) → found e room ≡ None → (y : Note) → IsOwed m me room y
      → IsOwed m me (joined e x room) y
  still_owed_joined me room e x none y k = (k.0, λ f. by (k.1 f).0 (k.1 f).1 (k.1 f).2 (nat_eq (k.1 f).0.index e) refl)
    where
      by : (o : ElementView C) → found o.index room ≡ Some o → Owes m me o y → (b : Bool) → nat_eq o.index e ≡ b
          → (z : ElementView C) × (found z.index (joined e x room) ≡ Some z) × Owes m me z y
      by o is owes true t =
          let i : o.index ≡ e = grind (arith, nat_tests) in
          let s : None ≡ Some o = sym none ∙ subst (λ (v : ℕ). found v room ≡ Some o) i is in
          absurd (cc)
      by o is owes false t =
          let i : o.index ≢ e = grind (arith, nat_tests) in
          (o, joined_other o.index e x room i ∙ is, owes)

  pub installed_agrees : (pe : PeView C) (p : PackedView) (chare : C) → AgreesAt m pe → AgreesOn m (Element p) → found p.index pe.room ≡ None → AgreesAt m (installed pe p chare)
  installed_agrees pe p chare h k none =
      record {
        keyed = places_joined Key p.index (unpacked p chare) pe.room h.keyed (λ i s. s);
        room = All-values-insert_entry nat_cmp p.index (unpacked p chare) (AgreesWith m pe.me pe.notes) pe.room h.room
            (record { known = k.0; fresh = k.1; state = inr (inr (inr k.2)) });
        notes = All-weaker (IsOwed m pe.me pe.room) (IsOwed m pe.me (joined p.index (unpacked p chare) pe.room))
            (still_owed_joined pe.me pe.room p.index (unpacked p chare) none) pe.notes h.notes;
        once = h.once;
        hand = tt;
        outbox = All-append (ItemAgrees m) pe.outbox _ h.outbox (unshelved_agree m pe.me _);
      }

  -- Act, on a letter whose element is not here
  pub passing_agrees : (pe : PeView C) (l : LetterView) (look : Option ℕ) → AgreesAt m pe → IfSome (passing pe l look) (λ a. AgreesAt m a.pe)
  passing_agrees pe l None h = tt
  passing_agrees pe l (Some q) h = by (nat_eq q pe.me)
    where
      by : (b : Bool) → AgreesAt m (if b then shelving pe l else forwarding pe l q).pe
      by true = record { keyed = h.keyed; room = h.room; notes = h.notes; once = h.once; hand = tt; outbox = h.outbox }
      by false = record { keyed = h.keyed; room = h.room; notes = h.notes; once = h.once; hand = tt; outbox = All-push (ItemAgrees m) pe.outbox _ h.outbox tt }

module _ {C : Type 0} (step : Step C) (pack : C → List ℕ) (unpack : List ℕ → Result (C × ℕ) PupError) (m : Measured) (pe : PeView C) (h : AgreesAt m pe) where
  letter_on : (l : LetterView) (look : Option ℕ) (o : Option (ElementView C)) → found l.to pe.room ≡ o → IfSome (on_letter step pack pe l look o) (λ a. AgreesAt m a.pe)
  letter_on l look (Some el) at = by el.progress.started refl
    where
      by : (b : Bool) → el.progress.started ≡ b → IfSome (if b then Some (executed step pack pe l) else None) (λ a. AgreesAt m a.pe)
      by true t = letter_agrees step pack m pe h l.to el at l t
      by false t = tt
  letter_on l look None at = passing_agrees m pe l look h

  element_on : (p : PackedView) (o : Option (ElementView C)) → found p.index pe.room ≡ o → AgreesOn m (Element p)
      → IfSome (on_element step pack unpack pe p o) (λ a. AgreesAt m a.pe)
  element_on p (Some el) at k = tt
  element_on p None at k = by (unpack p.bytes)
    where
      by : (r : Result (C × ℕ) PupError) → IfSome (installing step pack unpack pe p r) (λ a. AgreesAt m a.pe)
      by (Err error) = tt
      by (Ok x) = installed_agrees m pe p x.0 h k at

  parcel_on : (parcel : Parcel) (look : Option ℕ) → AgreesOn m parcel → IfSome (on_parcel step pack unpack pe parcel look) (λ a. AgreesAt m a.pe)
  parcel_on (Letter l) look k = letter_on l look (found l.to pe.room) refl
  parcel_on (Element p) look k = element_on p (found p.index pe.room) refl k

  hand_on : (o : Option Item) → IfSome o (ItemAgrees m) → IfSome (acting_on step pack unpack pe o) (λ a. AgreesAt m a.pe)
  hand_on None k = tt
  hand_on (Some x) k = parcel_on x.parcel x.address k

  -- Act
  pub act_event_agrees : (a : PeView C × List TraceEntry) → act_event step pack unpack pe ≡ Some a → AgreesAt m a.0
  act_event_agrees a s = by (acting step pack unpack pe) (hand_on pe.hand h.hand) s
    where
      by : (o : Option (Acting C)) → IfSome o (λ x. AgreesAt m x.pe) → option_map (λ (x : Acting C). (x.pe, x.trace)) o ≡ Some a → AgreesAt m a.0
      by None k t = cc
      by (Some x) k t = subst (λ (v : PeView C × List TraceEntry). AgreesAt m v.0) (same_Some (x.pe, x.trace) a t) k

-- Depart
module _ {C : Type 0} (step : Step C) (pack : C → List ℕ) where
  still_owed_without : (m : Measured) (me : ℕ) (room : List (ℕ × ElementView C)) (e : ℕ) (el : ElementView C) → found e room ≡ Some el
      → ((z : Note) → Owes m me el z → ⊥) → (y : Note) → IsOwed m me room y → IsOwed m me (without e room) y
  still_owed_without m me room e el at none y k = (k.0, λ f. by (k.1 f).0 (k.1 f).1 (k.1 f).2 (nat_eq (k.1 f).0.index e) refl)
    where
      by : (o : ElementView C) → found o.index room ≡ Some o → Owes m me o y → (b : Bool) → nat_eq o.index e ≡ b
          → (z : ElementView C) × (found z.index (without e room) ≡ Some z) × Owes m me z y
      by o is owes true t =
          let i : o.index ≡ e = grind (arith, nat_tests) in
          let s : Some el ≡ Some o = sym at ∙ subst (λ (v : ℕ). found v room ≡ Some o) i is in
          absurd (none y (subst (λ (v : ElementView C). Owes m me v y) (sym (same_Some el o s)) owes))
      by o is owes false t =
          let i : o.index ≢ e = grind (arith, nat_tests) in
          (o, without_other o.index e room i ∙ is, owes)

  pub departed_agrees : (m : Measured) (pe : PeView C) (e q : ℕ) (el : ElementView C) → AgreesAt m pe → found e pe.room ≡ Some el
      → WaitsForPlace m el.index el.progress → AgreesAt m (departed pack pe e q)
  departed_agrees m pe e q el h at w =
      let now : AgreesWith m pe.me pe.notes el = of_found (AgreesWith m pe.me pe.notes) e el pe.room h.room at in
      let goes : All (ItemAgrees m) (option_to_list (option_map (element_at q) (option_map (packed pack) (found e pe.room)))) =
      subst (λ (o : Option (ElementView C)). All (ItemAgrees m) (option_to_list (option_map (element_at q) (option_map (packed pack) o)))) (sym at)
      (All-cons (ItemAgrees m) (element_at q (packed pack el)) [] (now.known, now.fresh, w) (All-nil (ItemAgrees m))) in
      record {
        keyed = places_without Key e pe.room h.keyed;
        room = All-map-remove_entry (is_at (nat_cmp e)) (λ x. x.1) (AgreesWith m pe.me pe.notes) pe.room h.room;
        notes = All-weaker (IsOwed m pe.me pe.room) (IsOwed m pe.me (without e pe.room))
            (still_owed_without m pe.me pe.room e el at (owes_none_decided m pe.me el w)) pe.notes h.notes;
        once = h.once;
        hand = h.hand;
        outbox = All-append (ItemAgrees m) pe.outbox _ h.outbox goes;
      }

  pub depart_event_agrees : {A : Type 0} (p : ℕ) (pe : PeView C) (words : List ℕ) (b : BoardState A) (e : ℕ) (a : PeView C × List ℕ × List TraceEntry)
      → b.database.round ≡ length b.rounds + 1 → AgreesAt b.database pe → depart_event step pack p pe words b e ≡ Some a → AgreesAt b.database a.0
  depart_event_agrees p pe words b e a numbered h s =
      option_and_then_some (λ (at : ℕ × ℕ). where_true (not (at.1 == p)) (Some (departed pack pe e at.1, slice_set words e at.1, Departed e ∷ []))) (due pe b e) a s
      (λ at d t.
      let both = where_some (not (at.1 == p)) (Some (departed pack pe e at.1, slice_set words e at.1, Departed e ∷ [])) a t in
      let is : IsDue b.database pe e at.0 = due_waits b numbered pe e at h d in
      subst (λ (v : PeView C × List ℕ × List TraceEntry). AgreesAt b.database v.0) (same_Some (departed pack pe e at.1, slice_set words e at.1, Departed e ∷ []) a both.1)
      (departed_agrees b.database pe e at.1 is.el h is.stands is.waits))
