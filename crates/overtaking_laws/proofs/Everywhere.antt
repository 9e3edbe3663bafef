-- What holds of each element of a stamped run, wherever it is: what the steps keep of it.
use Rattle.std.proofs.Common.{◌≡◌, ℕ, ◌≤◌, List, [], ◌∷◌, ◌++◌, Option, Some, None, sym, subst}
use Rattle.std.specs.Prelude.{Result, All, IfSome, slice_get}
use Rattle.std.proofs.lemmas.List.Elements.{All-head, All-tail, All-push, All-weaker}
use Rattle.chares.specs.declared.carried.Carried.TheVariants.{Letter, Element}
use Rattle.chares.specs.declared.trace_entry.TraceEntry.{TraceEntry}
use Rattle.chares.specs.Letters.{Done}
use Rattle.chares.specs.Steps.{Step}
use Rattle.pup_pack.specs.declared.error.PupError.{PupError}
use Rattle.pe_state.specs.Pes.{PeView, Parcel, Item, front_parcel, gave_up, received, waits_at}
use Rattle.rts_core.specs.declared.event.Event.{Event}
use Rattle.rts_core.specs.declared.event.Event.TheVariants.{Start, Look, Flush, Deliver, Act, Report, Decide, Depart, Resume}
use Rattle.rts_core.specs.Events.{After, LocalView, Happens, local_view, with_local, local_step, pe_of}
use Rattle.rts_core.specs.Worlds.{WorldView}
use Rattle.rts_core.proofs.Rooms.{EachAt}
use Rattle.overtaking_laws.specs.StampedRuns.{Stamped, StampedView, SendsStamped, TakesInTime, KeepsQueues, IsInformed, seen_by, maker}
use Rattle.overtaking_laws.proofs.EventCases.{case_so}
use Rattle.overtaking_laws.proofs.Overtaken.{all_moved}
use Rattle.overtaking_laws.proofs.OwnTurns.{Frees, own_turn_so}
use Rattle.overtaking_laws.proofs.Indexed.{each_at}
use Rattle.overtaking_laws.proofs.Whereabouts.{Standing, Inside, Boxed, Holds, Allows, gave_up_holds, received_holds, turn_holds}

-- what holds of each element of a room
module _ {X : Type 0} where
  pub each_all : (P : ℕ → X → Type 0) → ((e : ℕ) (x : X) → P e x) → (room : List (ℕ × X)) → EachAt P room
  each_all P h [] = tt
  each_all P h (y ∷ room) = (h y.0 y.1, each_all P h room)

  pub each_both : (P Q S : ℕ → X → Type 0) → ((e : ℕ) (x : X) → P e x → Q e x → S e x) → (room : List (ℕ × X)) → EachAt P room → EachAt Q room → EachAt S room
  each_both P Q S gives [] h k = tt
  each_both P Q S gives (y ∷ room) h k = (gives y.0 y.1 h.0 k.0, each_both P Q S gives room h.1 k.1)

  pub each_weaker : (P Q : ℕ → X → Type 0) → ((e : ℕ) (x : X) → P e x → Q e x) → (room : List (ℕ × X)) → EachAt P room → EachAt Q room
  each_weaker P Q gives room h = each_both P P Q (λ e x a b. gives e x a) room h h

-- what an informed event frees waits for the end of a round that its PE knows
pub frees_known : {C A : Type 0} (s : StampedView C A) (p : ℕ) (pe : PeView C) (event : Event) → IsInformed s event → pe_of event ≡ Some p → slice_get s.pes p ≡ Some pe
    → (e round : ℕ) → Frees event e → waits_at pe e ≡ Some round → round ≤ s.known p
frees_known {C} s p pe (Depart q i) informed of at e round frees waits =
    let same : q ≡ p = cc in
    let here : slice_get s.pes q ≡ Some pe = subst (λ (v : ℕ). slice_get s.pes v ≡ Some pe) (sym same) at in
    let known : round ≤ s.known q = informed pe round here (subst (λ (v : ℕ). waits_at pe v ≡ Some round) (sym frees) waits) in
    subst (λ (v : ℕ). round ≤ s.known v) same known
frees_known {C} s p pe (Resume q i) informed of at e round frees waits =
    let same : q ≡ p = cc in
    let here : slice_get s.pes q ≡ Some pe = subst (λ (v : ℕ). slice_get s.pes v ≡ Some pe) (sym same) at in
    let known : round ≤ s.known q = informed pe round here (subst (λ (v : ℕ). waits_at pe v ≡ Some round) (sym frees) waits) in
    subst (λ (v : ℕ). round ≤ s.known v) same known
frees_known s p pe (Start q i) informed of at e round frees waits = absurd frees
frees_known s p pe (Look q) informed of at e round frees waits = absurd frees
frees_known s p pe (Flush q) informed of at e round frees waits = absurd frees
frees_known s p pe (Deliver q) informed of at e round frees waits = absurd frees
frees_known s p pe (Act q) informed of at e round frees waits = absurd frees
frees_known s p pe (Report q) informed of at e round frees waits = absurd frees
frees_known s p pe Decide informed of at e round frees waits = absurd frees

module _ (R : ℕ → ℕ → ℕ → List Done → Type 0) (K : ℕ → ℕ → List Done → Type 0) where
  -- it holds of each element that a PE has, and of each in a queue
  pub record Everywhere {C A : Type 0} (s : StampedView C A) : Type 0 where
    pub held : (p : ℕ) (pe : PeView C) → slice_get s.pes p ≡ Some pe → Holds R K p pe
    pub queued : (q : ℕ) (queue : List Stamped) → slice_get s.queues q ≡ Some queue → All (λ x. Inside R K x.1) queue

  front_inside : (outbox : List Item) (parcel : Parcel) → All (Boxed R K) outbox → front_parcel outbox ≡ Some parcel → Inside R K parcel
  front_inside [] parcel all front = cc
  front_inside (x ∷ xs) parcel all front =
      let is : x.parcel ≡ parcel = cc in
      subst (Inside R K) is (All-head (Boxed R K) x xs all)

  module _ {C A : Type 0} (s : StampedView C A) (h : Everywhere s) where
    pub sends_everywhere : (p : ℕ) (next : StampedView C A) → SendsStamped p s next → Everywhere next
    sends_everywhere p next t =
        subst Everywhere (sym t.leads)
        (record {
          held = each_at (λ q (x : PeView C). Holds R K q x) s.pes p t.pe (gave_up t.pe) t.there h.held (gave_up_holds R K p t.pe (h.held p t.pe t.there));
          queued = each_at (λ q (x : List Stamped). All (λ (y : Stamped). Inside R K y.1) x) s.queues t.q t.queue (t.queue ++ (s.known p, t.parcel) ∷ []) t.queued h.queued
              (All-push (λ (y : Stamped). Inside R K y.1) t.queue (s.known p, t.parcel) (h.queued t.q t.queue t.queued)
              (front_inside t.pe.outbox t.parcel (h.held p t.pe t.there).outbox t.front));
        })

    pub takes_everywhere : (p : ℕ) (next : StampedView C A) → TakesInTime p s next → Everywhere next
    takes_everywhere p next t =
        let all : All (λ (y : Stamped). Inside R K y.1) (t.parcel ∷ t.before ++ t.after) =
        all_moved (λ (y : Stamped). Inside R K y.1) t.before t.parcel t.after (h.queued p (t.before ++ t.parcel ∷ t.after) t.queued) in
        subst Everywhere (sym t.leads)
        (record {
          held = each_at (λ q (x : PeView C). Holds R K q x) s.pes p t.pe (received t.pe t.parcel.1) t.there h.held
              (received_holds R K p t.pe (h.held p t.pe t.there) t.parcel.1 (All-head (λ (y : Stamped). Inside R K y.1) t.parcel (t.before ++ t.after) all));
          queued = each_at (λ q (x : List Stamped). All (λ (y : Stamped). Inside R K y.1) x) s.queues p (t.before ++ t.parcel ∷ t.after) (t.before ++ t.after) t.queued h.queued
              (All-tail (λ (y : Stamped). Inside R K y.1) t.parcel (t.before ++ t.after) all);
        })

    -- an event, where nothing that it does is against it
    module _ (step : Step C) (pack : C → List ℕ) (unpack : List ℕ → Result (C × ℕ) PupError) (n pes : ℕ) (event : Event) (keeps : KeepsQueues event) (informed : IsInformed s event)
        (allows : (p : ℕ) (pe : PeView C) → pe_of event ≡ Some p → slice_get s.pes p ≡ Some pe → Allows R K event p (s.known p) pe s.board)
        (w : After C A) (happens : Happens step pack unpack (seen_by n pes s (maker event)) event w) where
      abbrev seen : WorldView C A
      seen = seen_by n pes s (maker event)

      abbrev HeldIn : After C A → Type 0
      HeldIn v = (p : ℕ) (pe : PeView C) → slice_get v.0.pes p ≡ Some pe → Holds R K p pe

      turn_held : (p : ℕ) (pe : PeView C) → pe_of event ≡ Some p → slice_get s.pes p ≡ Some pe → (after : LocalView C A × List TraceEntry)
          → local_step step pack unpack event (local_view seen pe) ≡ Some after → HeldIn (with_local seen p after.0, after.1)
      turn_held p pe of at after is =
          each_at (λ q (x : PeView C). Holds R K q x) s.pes p pe after.0.pe at h.held
          (own_turn_so step pack unpack p (local_view seen pe) (Holds R K p) event after
          (turn_holds R K step pack unpack event p (s.known p) (local_view seen pe) (h.held p pe at) (allows p pe of at)
          (frees_known s p pe event informed of at)) keeps of is)

      pub makes_held : (p : ℕ) (pe : PeView C) → slice_get w.0.pes p ≡ Some pe → Holds R K p pe
      makes_held =
          case_so step pack unpack seen event HeldIn (record { nothing = h.held; turn = turn_held; decides = λ board rs of. h.held }) w happens

      pub makes_everywhere : Everywhere (record s { pes = w.0.pes; board = w.0.board })
      makes_everywhere = record { held = makes_held; queued = h.queued }

-- ---- what holds of each element, where something weaker follows

module _ (R R' : ℕ → ℕ → ℕ → List Done → Type 0) (K K' : ℕ → ℕ → List Done → Type 0) (goes : (e r : ℕ) (journal : List Done) → K e r journal → K' e r journal) where
  inside_weaker : (parcel : Parcel) → Inside R K parcel → Inside R' K' parcel
  inside_weaker (Letter l) k = tt
  inside_weaker (Element x) k = goes x.index x.progress.round x.journal k

  pub parcels_weaker : {C : Type 0} (p : ℕ) (pe : PeView C) → Holds R K p pe → EachAt (Standing R' K' {C = C} p) pe.room → Holds R' K' p pe
  parcels_weaker p pe h room =
      record { room = room; hand = by pe.hand h.hand; outbox = All-weaker (Boxed R K) (Boxed R' K') (λ x k. inside_weaker x.parcel k) pe.outbox h.outbox }
    where
      by : (o : Option Item) → IfSome o (Boxed R K) → IfSome o (Boxed R' K')
      by None k = tt
      by (Some x) k = inside_weaker x.parcel k

  pub queue_weaker : (queue : List Stamped) → All (λ (x : Stamped). Inside R K x.1) queue → All (λ (x : Stamped). Inside R' K' x.1) queue
  queue_weaker queue h = All-weaker (λ (x : Stamped). Inside R K x.1) (λ (x : Stamped). Inside R' K' x.1) (λ x k. inside_weaker x.1 k) queue h

  pub everywhere_weaker : {C A : Type 0} (s : StampedView C A) → ((p e r : ℕ) (journal : List Done) → R p e r journal → R' p e r journal) → Everywhere R K s → Everywhere R' K' s
  everywhere_weaker {C} s stands h =
      record {
        held = λ p pe at.
            let k : Holds R K p pe = h.held p pe at in
            parcels_weaker p pe k (each_weaker (Standing R K {C = C} p) (Standing R' K' {C = C} p) (λ e el a. (a.0, stands p e el.progress.round el.journal a.1)) pe.room k.room);
        queued = λ q queue at. queue_weaker queue (h.queued q queue at);
      }
