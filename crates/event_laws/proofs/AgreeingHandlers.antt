-- A PE and the board still agree after a handler: of an element that starts, that executes a letter or that is resumed.
use Rattle.std.proofs.Common.{◌≡◌, ℕ, ◌+◌, ◌<◌, ◌≤◌, List, [], ◌∷◌, ◌++◌, length, Option, Some, None, Bool, true, false, arith, refl, sym, ◌∙◌, ap, subst, inl, inr, min}
use Rattle.std.specs.Prelude.{All, IfSome, ◌==◌, not, if◌then◌else◌}
use Rattle.std.specs.Option.{option_map_or, option_and_then, option_to_list}
use Rattle.std.proofs.lemmas.Option.{option_and_then_some, same_Some}
use Rattle.std.proofs.lemmas.List.Elements.{All-nil, All-cons, All-append}
use Rattle.chare_index.specs.declared.limits.TheConstants.Limits.{LOAD}
use Rattle.sync_board.specs.Boards.{BoardState, place_in}
use Rattle.lb_database.specs.Measuring.{Measured}
use Rattle.chares.specs.declared.entry.Entry.TheVariants.{Letter as OfLetter, Resumption}
use Rattle.chares.specs.declared.note.Note.{Note}
use Rattle.chares.specs.declared.progress.Progress.{Progress}
use Rattle.chares.specs.declared.trace_entry.TraceEntry.{TraceEntry}
use Rattle.chares.specs.Elements.{ElementView, PackedView, outcome_of, worked, ending_of, note_of, ran}
use Rattle.chares.specs.Letters.{LetterView, Done}
use Rattle.chares.specs.Posting.{letters_of}
use Rattle.chares.specs.Progressing.{resumed_mark}
use Rattle.chares.specs.Steps.{Step}
use Rattle.pe_state.specs.Pes.{PeView, Item, handled, resumed, resume_entries, waits_for}
use Rattle.pe_state.specs.Rooms.{found, changed, ran_in, sends_in, note_in}
use Rattle.rts_core.specs.Events.{where_true, due, start_event, resume_event}
use Rattle.rts_core.proofs.EventSteps.{where_some}
use Rattle.event_laws.specs.Agreement.{IsAtWork, Owes, WaitsForPlace, IsInSomeState, AgreesWith, AgreesOn, AgreesAt}
use Rattle.event_laws.proofs.Rooms.{of_found}
use Rattle.event_laws.proofs.HandlerTurns.{Turn, RoomAgrees, turned, no_sync, true_not_false, turn_at_work, turn_waiting}
use Rattle.event_laws.proofs.BoardTraces.{place_decided}

-- a parcel in a hand or in an outbox
abbrev pub ItemAgrees : Measured → Item → Type 0
ItemAgrees m x = AgreesOn m x.parcel

pub letters_agree : (m : Measured) (me k : ℕ) (sends : List (ℕ × List ℕ)) → All (ItemAgrees m) (letters_of {P = PackedView} me k sends)
letters_agree m me k [] = All-nil (ItemAgrees m)
letters_agree m me k (send ∷ sends) = All-cons (ItemAgrees m) _ (letters_of {P = PackedView} me (k + 1) sends) tt (letters_agree m me (k + 1) sends)

pub room_agrees : {C : Type 0} (m : Measured) (pe : PeView C) → AgreesAt m pe → RoomAgrees m pe.me pe.room pe.notes
room_agrees m pe h = record { keyed = h.keyed; each = h.room; owing = h.notes; once = h.once }

pub least_left : (a b : ℕ) → min a b ≤ b
least_left a b = omega arith

-- ---- elements that wait

-- an element whose round is decided owes nothing
pub owes_none_decided : {C : Type 0} (m : Measured) (me : ℕ) (el : ElementView C) → WaitsForPlace m el.index el.progress → (y : Note) → Owes m me el y → ⊥
owes_none_decided m me el w y o = omega (arith, w.at_round, o.at_round)

pub owes_none_awake : {C : Type 0} (m : Measured) (me : ℕ) (el : ElementView C) → el.progress.synced ≡ false → (y : Note) → Owes m me el y → ⊥
owes_none_awake m me el f y o = true_not_false el.progress.synced o.waits f

-- an element that does not wait is at work
pub awake_at_work : {C : Type 0} (m : Measured) (me : ℕ) (notes : List Note) (el : ElementView C) → el.progress.synced ≡ false
    → IsInSomeState m me notes el → IsAtWork m el.index el.progress
awake_at_work m me notes el f (inl w) = w
awake_at_work m me notes el f (inr (inl o)) = absurd (true_not_false el.progress.synced o.owes.waits f)
awake_at_work m me notes el f (inr (inr (inl k))) = absurd (true_not_false el.progress.synced k.waits f)
awake_at_work m me notes el f (inr (inr (inr k))) = absurd (true_not_false el.progress.synced k.waits f)

-- one that waits for the end of an earlier round than the one under way waits for its place
pub decided_waits : {C : Type 0} (m : Measured) (me : ℕ) (notes : List Note) (el : ElementView C) → el.progress.synced ≡ true
    → el.progress.round + 1 < m.round → IsInSomeState m me notes el → WaitsForPlace m el.index el.progress
decided_waits m me notes el t lt (inl w) = absurd (true_not_false el.progress.synced t w.awake)
decided_waits m me notes el t lt (inr (inl o)) = absurd (omega (arith, lt, o.owes.at_round))
decided_waits m me notes el t lt (inr (inr (inl k))) = absurd (omega (arith, lt, k.at_round))
decided_waits m me notes el t lt (inr (inr (inr k))) = k

-- an element that is due is in the room, and waits for its place
pub record IsDue {C : Type 0} (m : Measured) (pe : PeView C) (e round : ℕ) : Type 0 where
  pub el : ElementView C
  pub stands : found e pe.room ≡ Some el
  pub waits : WaitsForPlace m el.index el.progress
  pub ends : round ≡ el.progress.round + 1

waited : (p : Progress) (r : ℕ) → (if p.synced then Some (p.round + 1) else None) ≡ Some r → (p.synced ≡ true) × (r ≡ p.round + 1)
waited p r h = by p.synced refl h
  where
    by : (s : Bool) → p.synced ≡ s → (if s then Some (p.round + 1) else None) ≡ Some r → (p.synced ≡ true) × (r ≡ p.round + 1)
    by true t k = (t, sym (same_Some (p.round + 1) r k))
    by false t k = cc

module _ {A : Type 0} (b : BoardState A) (numbered : b.database.round ≡ length b.rounds + 1) where
  pub due_waits : {C : Type 0} (pe : PeView C) (e : ℕ) (at : ℕ × ℕ) → AgreesAt b.database pe → due pe b e ≡ Some at → IsDue b.database pe e at.0
  due_waits {C} pe e at h d =
      option_and_then_some (λ (el : ElementView C). option_and_then (λ round. option_and_then (λ q. Some (round, q)) (place_in b round e)) (waits_for el)) (found e pe.room) at d
      (λ el is s.
      option_and_then_some (λ round. option_and_then (λ q. Some (round, q)) (place_in b round e)) (waits_for el) at s
      (λ round waits t.
      option_and_then_some (λ q. Some (round, q)) (place_in b round e) at t
      (λ q place u.
      let same : round ≡ at.0 = ap (λ (v : ℕ × ℕ). v.0) (same_Some (round, q) at u) in
      let both = waited el.progress round waits in
      let before : round < b.database.round = place_decided b round e q numbered place in
      let agrees : AgreesWith b.database pe.me pe.notes el = of_found (AgreesWith b.database pe.me pe.notes) e el pe.room h.room is in
      record {
        el = el;
        stands = is;
        waits = decided_waits b.database pe.me pe.notes el both.0 (omega (arith, before, both.1)) agrees.state;
        ends = sym same ∙ both.1;
      })))

-- ---- handlers

module _ {C : Type 0} (step : Step C) (pack : C → List ℕ) (m : Measured) (pe : PeView C) (h : AgreesAt m pe) where
  -- the PE after a handler, where the turn of its element is known
  pub handled_agrees : (e : ℕ) (done : Done) (hand : Option Item) (el : ElementView C) → found e pe.room ≡ Some el → IfSome hand (ItemAgrees m)
      → Turn m pe.me pe.notes el (ran step pack el pe.n pe.me done) (note_of step pack el pe.n pe.me done) → AgreesAt m (handled step pack pe e done hand)
  handled_agrees e done hand el at held turn =
      let r : RoomAgrees m pe.me (changed e (ran step pack el pe.n pe.me done) pe.room) (pe.notes ++ option_to_list (note_of step pack el pe.n pe.me done)) =
      turned m pe.me pe.room pe.notes e el (ran step pack el pe.n pe.me done) (note_of step pack el pe.n pe.me done) (room_agrees m pe h) at turn in
      let s : RoomAgrees m pe.me (ran_in step pack pe.room e pe.n pe.me done) (pe.notes ++ option_to_list (note_in step pack pe.room e pe.n pe.me done)) =
      subst (λ (o : Option (ElementView C)). RoomAgrees m pe.me
      (option_map_or (λ x. changed e (ran step pack x pe.n pe.me done) pe.room) o pe.room)
      (pe.notes ++ option_to_list (option_map_or (λ x. note_of step pack x pe.n pe.me done) o None))) (sym at) r in
      record {
        keyed = s.keyed;
        room = s.each;
        notes = s.owing;
        once = s.once;
        hand = held;
        outbox = All-append (ItemAgrees m) pe.outbox _ h.outbox (letters_agree m pe.me pe.count (sends_in step pack pe.room e pe.n done));
      }

  module _ (e : ℕ) (el : ElementView C) (at : found e pe.room ≡ Some el) where
    abbrev pub now : AgreesWith m pe.me pe.notes el
    now = of_found (AgreesWith m pe.me pe.notes) e el pe.room h.room at

    -- a handler of an element that is at work
    turn_works : (done : Done) → IsAtWork m el.index (worked step pack el pe.n done) → (worked step pack el pe.n done).started ≡ true → ((y : Note) → Owes m pe.me el y → ⊥)
        → Turn m pe.me pe.notes el (ran step pack el pe.n pe.me done) (note_of step pack el pe.n pe.me done)
    turn_works done w s none =
        turn_at_work m pe.me pe.notes el (outcome_of step pack el pe.n done).state (el.journal ++ done ∷ []) (worked step pack el pe.n done)
        (length (pack (outcome_of step pack el pe.n done).state)) (resumed_mark pe.me done)
        w (least_left _ LOAD) s now.known none (ending_of step pack el pe.n done)

    -- of one that starts
    pub start_agrees : el.progress.started ≡ false → AgreesAt m (resumed step pack pe e 0)
    start_agrees f =
        let both = now.fresh f in
        let w : IsAtWork m el.index el.progress = awake_at_work m pe.me pe.notes el both.1 now.state in
        handled_agrees e (Resumption 0) pe.hand el at h.hand
        (turn_works (Resumption 0) (record { awake = refl; at_round = w.at_round ∙ ap (λ (v : ℕ). v + 1) both.0; silent = w.silent }) refl (owes_none_awake m pe.me el both.1))

    -- of one that is resumed
    pub resume_agrees : (round : ℕ) → WaitsForPlace m el.index el.progress → round ≡ el.progress.round + 1 → AgreesAt m (resumed step pack pe e round)
    resume_agrees round w ends =
        handled_agrees e (Resumption round) pe.hand el at h.hand
        (turn_works (Resumption round) (record { awake = refl; at_round = omega (arith, w.at_round, ends); silent = w.silent }) refl (owes_none_decided m pe.me el w))

    -- of one that executes a letter
    pub letter_agrees : (l : LetterView) → el.progress.started ≡ true → AgreesAt m (handled step pack pe e (OfLetter l) None)
    letter_agrees l s = handled_agrees e (OfLetter l) None el at tt (by el.progress.synced refl)
      where
        by : (b : Bool) → el.progress.synced ≡ b → Turn m pe.me pe.notes el (ran step pack el pe.n pe.me (OfLetter l)) (note_of step pack el pe.n pe.me (OfLetter l))
        by true t =
            turn_waiting m pe.me pe.notes el (outcome_of step pack el pe.n (OfLetter l)).state (el.journal ++ OfLetter l ∷ [])
            (worked step pack el pe.n (OfLetter l)) (length (pack (outcome_of step pack el pe.n (OfLetter l)).state)) (resumed_mark pe.me (OfLetter l))
            now refl t s t (ending_of step pack el pe.n (OfLetter l)) (no_sync (worked step pack el pe.n (OfLetter l)) (outcome_of step pack el pe.n (OfLetter l)).effect t)
        by false t =
            let w : IsAtWork m el.index el.progress = awake_at_work m pe.me pe.notes el t now.state in
            turn_works (OfLetter l) (record { awake = t; at_round = w.at_round; silent = w.silent }) s (owes_none_awake m pe.me el t)

-- ---- the events

module _ {C : Type 0} (step : Step C) (pack : C → List ℕ) where
  pub start_event_agrees : (m : Measured) (pe : PeView C) (e : ℕ) (a : PeView C × List TraceEntry) → AgreesAt m pe → start_event step pack pe e ≡ Some a → AgreesAt m a.0
  start_event_agrees m pe e a h s =
      option_and_then_some (λ (el : ElementView C). where_true (not el.progress.started) (Some (resumed step pack pe e 0, resume_entries step pack pe e 0))) (found e pe.room) a s
      (λ el at t.
      let both = where_some (not el.progress.started) (Some (resumed step pack pe e 0, resume_entries step pack pe e 0)) a t in
      subst (λ (v : PeView C × List TraceEntry). AgreesAt m v.0) (same_Some (resumed step pack pe e 0, resume_entries step pack pe e 0) a both.1)
      (start_agrees step pack m pe h e el at (not_true el.progress.started both.0)))
    where
      not_true : (b : Bool) → not b ≡ true → b ≡ false
      not_true true t = cc
      not_true false t = refl

  pub resume_event_agrees : {A : Type 0} (p : ℕ) (pe : PeView C) (b : BoardState A) (e : ℕ) (a : PeView C × List TraceEntry)
      → b.database.round ≡ length b.rounds + 1 → AgreesAt b.database pe → resume_event step pack p pe b e ≡ Some a → AgreesAt b.database a.0
  resume_event_agrees p pe b e a numbered h s =
      option_and_then_some (λ (at : ℕ × ℕ). where_true (at.1 == p) (Some (resumed step pack pe e at.0, resume_entries step pack pe e at.0))) (due pe b e) a s
      (λ at d t.
      let both = where_some (at.1 == p) (Some (resumed step pack pe e at.0, resume_entries step pack pe e at.0)) a t in
      let is : IsDue b.database pe e at.0 = due_waits b numbered pe e at h d in
      subst (λ (v : PeView C × List TraceEntry). AgreesAt b.database v.0) (same_Some (resumed step pack pe e at.0, resume_entries step pack pe e at.0) a both.1)
      (resume_agrees step pack b.database pe h e is.el is.stands at.0 is.waits is.ends))
