-- What a step does to the elements of a PE and of the queues: each was what its journal says, and still is.
use Rattle.std.proofs.Common.{◌≡◌, ℕ, ◌+◌, ◌≤◌, List, [], ◌∷◌, ◌++◌, length, Bool, true, false, Option, Some, None, Result, Ok, Err, refl, sym, subst, length-set}
use Rattle.std.specs.Prelude.{All, not, is_none, IfSome, OnErr, IfOk, slice_get, slice_set}
use Rattle.std.specs.Option.{option_map, option_and_then}
use Rattle.std.proofs.lemmas.List.Elements.{All-push, All-head, All-tail, All-set}
use Rattle.std.proofs.lemmas.Option.{slice_get_within, get_or_from_slice_get}
use Rattle.chare_index.specs.declared.limits.TheConstants.Limits.{STATE_BYTES}
use Rattle.pup_pack.specs.declared.error.PupError.{PupError}
use Rattle.sync_board.specs.Boards.{BoardState, after_report, after_finish, place_in}
use Rattle.lb_database.specs.Measuring.{elements}
use Rattle.chares.specs.declared.note.Note.{Note}
use Rattle.chares.specs.declared.note.Note.TheVariants.{Sync, Finish}
use Rattle.chares.specs.declared.trace_entry.TraceEntry.{TraceEntry}
use Rattle.chares.specs.declared.entry.Entry.TheVariants.{Resumption}
use Rattle.chares.specs.Elements.{ElementView}
use Rattle.chares.specs.Steps.{Step}
use Rattle.pe_state.specs.Histories.{IsParcelHistory, HasHistories}
use Rattle.pe_state.specs.Pes.{PeView, Parcel, Acting, front_parcel, front_address, wanted, looked, received, gave_up, noted, acting, waits_for}
use Rattle.pe_state.specs.Rooms.{found}
use Rattle.pe_state.proofs.Histories.{MayHandleAt, may_start, may_resume_after, looked_holds, resumed_holds, gave_up_holds, front_holds, received_holds, acting_holds, noted_holds, departed_holds}
use Rattle.rts_core.specs.Events.{where_true, look_event, flush_event, delivered, deliver_event, report_event, board_after, note_entries, start_event, depart_event, resume_event, act_event, due, front_of}
use Rattle.rts_core.specs.Parts.{or_same}

-- what a test lets through
pub where_holds : {X : Type 0} (P : X → Type 0) (test : Bool) (x : X) → P x → IfSome (where_true test (Some x)) P
where_holds P true x p = p
where_holds P false x p = tt

where_holds_if : {X : Type 0} (P : X → Type 0) (test : Bool) (x : X) → (test ≡ true → P x) → IfSome (where_true test (Some x)) P
where_holds_if P true x p = p refl
where_holds_if P false x p = tt

not_true : (b : Bool) → not b ≡ true → b ≡ false
not_true true h = cc
not_true false h = refl

-- what holds of what follows
pub and_then_holds : {X Y : Type 0} (P : Y → Type 0) (f : X → Option Y) (o : Option X) → ((x : X) → o ≡ Some x → IfSome (f x) P) → IfSome (option_and_then f o) P
and_then_holds P f None k = tt
and_then_holds P f (Some x) k = k x refl

-- what holds after a change, or of the same
pub or_same_holds : {X : Type 0} (P : X → Type 0) (x : X) (o : Option X) → P x → IfSome o P → P (or_same x o)
or_same_holds P x None h k = h
or_same_holds P x (Some y) h k = k

-- what holds of all holds of one
pub one_of_all : {X : Type 0} (P : X → Type 0) (xs : List X) (i : ℕ) → All P xs → IfSome (slice_get xs i) P
one_of_all {X} P xs i all = by (slice_get xs i) refl
  where
    by : (o : Option X) → slice_get xs i ≡ o → IfSome o P
    by None at = tt
    by (Some x) at = subst P (get_or_from_slice_get xs i x x at) (all i x (slice_get_within xs i x at))

module _ {C : Type 0} (step : Step C) (fits : C → Type 0) (pack : C → List ℕ) (opened : List C) where
  -- Look
  pub look_event_holds : (pe : PeView C) (words : List ℕ) → HasHistories step fits pack opened pe → HasHistories step fits pack opened (or_same pe (look_event pe words))
  look_event_holds pe words h =
      or_same_holds (HasHistories step fits pack opened) pe (look_event pe words) h (by_wanted (wanted pe))
    where
      by_word : (o : Option ℕ) → IfSome (option_and_then (λ (word : ℕ). Some (looked pe word)) o) (HasHistories step fits pack opened)
      by_word None = tt
      by_word (Some word) = looked_holds step fits pack opened pe word h

      by_wanted : (o : Option ℕ)
          → IfSome (option_and_then (λ (e : ℕ). option_and_then (λ (word : ℕ). Some (looked pe word)) (slice_get words e)) o) (HasHistories step fits pack opened)
      by_wanted None = tt
      by_wanted (Some e) = by_word (slice_get words e)

  -- Start
  pub start_event_holds : (pe : PeView C) (e : ℕ) → HasHistories step fits pack opened pe
      → IfSome (start_event step pack pe e) (λ after. HasHistories step fits pack opened after.0)
  start_event_holds pe e h =
      and_then_holds (λ after. HasHistories step fits pack opened after.0) _ (found e pe.room)
      (λ el at. where_holds_if (λ after. HasHistories step fits pack opened after.0) _ _
      (λ fresh. resumed_holds step fits pack opened pe e 0 h (may_start pe e el at (not_true el.progress.started fresh))))

  -- Resume
  due_handles : {A : Type 0} (pe : PeView C) (b : BoardState A) (e : ℕ) (at : ℕ × ℕ) → due pe b e ≡ Some at → MayHandleAt pe e (Resumption at.0)
  due_handles {A} pe b e at h = by_element (found e pe.room) refl h
    where
      by_place : (el : ElementView C) (round : ℕ) (o : Option ℕ) → found e pe.room ≡ Some el → waits_for el ≡ Some round
          → option_and_then (λ q. Some (round, q)) o ≡ Some at → MayHandleAt pe e (Resumption at.0)
      by_place el round None is waits k = cc
      by_place el round (Some q) is waits k =
          let same : round ≡ at.0 = cc in
          subst (λ (r : ℕ). MayHandleAt pe e (Resumption r)) same (may_resume_after pe e round el is waits)

      by_round : (el : ElementView C) (o : Option ℕ) → found e pe.room ≡ Some el → waits_for el ≡ o
          → option_and_then (λ round. option_and_then (λ q. Some (round, q)) (place_in b round e)) o ≡ Some at → MayHandleAt pe e (Resumption at.0)
      by_round el None is waits k = cc
      by_round el (Some round) is waits k = by_place el round (place_in b round e) is waits k

      by_element : (o : Option (ElementView C)) → found e pe.room ≡ o
          → option_and_then (λ (el : ElementView C). option_and_then (λ round. option_and_then (λ q. Some (round, q)) (place_in b round e)) (waits_for el)) o ≡ Some at
          → MayHandleAt pe e (Resumption at.0)
      by_element None is k = cc
      by_element (Some el) is k = by_round el (waits_for el) is refl k

  pub resume_event_holds : {A : Type 0} (p : ℕ) (pe : PeView C) (b : BoardState A) (e : ℕ) → HasHistories step fits pack opened pe
      → IfSome (resume_event step pack p pe b e) (λ after. HasHistories step fits pack opened after.0)
  resume_event_holds p pe b e h =
      and_then_holds (λ after. HasHistories step fits pack opened after.0) _ (due pe b e)
      (λ at is. where_holds (λ after. HasHistories step fits pack opened after.0) _ _ (resumed_holds step fits pack opened pe e at.0 h (due_handles pe b e at is)))

  -- Flush
  pub flush_event_holds : (pe : PeView C) (queues : List (List Parcel)) → HasHistories step fits pack opened pe
      → All (All (IsParcelHistory step fits pack opened)) queues
      → IfSome (flush_event pe queues) (λ after. HasHistories step fits pack opened after.0 × All (All (IsParcelHistory step fits pack opened)) after.1)
  flush_event_holds pe queues h k = by_address (front_address pe.outbox)
    where
      by_queue : (q : ℕ) (parcel : Parcel) (o : Option (List Parcel)) → IsParcelHistory step fits pack opened parcel
          → IfSome o (All (IsParcelHistory step fits pack opened))
          → IfSome (option_and_then (λ (queue : List Parcel). Some (gave_up pe, slice_set queues q (queue ++ parcel ∷ []))) o)
          (λ (after : PeView C × List (List Parcel)). HasHistories step fits pack opened after.0 × All (All (IsParcelHistory step fits pack opened)) after.1)
      by_queue q parcel None p all = tt
      by_queue q parcel (Some queue) p all = (
        gave_up_holds step fits pack opened pe h,
        All-set (All (IsParcelHistory step fits pack opened)) queues q (queue ++ parcel ∷ [])
            (All-push (IsParcelHistory step fits pack opened) queue parcel all p) k,
      )

      by_parcel : (q : ℕ) (o : Option Parcel) → IfSome o (IsParcelHistory step fits pack opened)
          → IfSome (option_and_then (λ (parcel : Parcel). option_and_then
          (λ (queue : List Parcel). Some (gave_up pe, slice_set queues q (queue ++ parcel ∷ []))) (slice_get queues q)) o)
          (λ (after : PeView C × List (List Parcel)). HasHistories step fits pack opened after.0 × All (All (IsParcelHistory step fits pack opened)) after.1)
      by_parcel q None p = tt
      by_parcel q (Some parcel) p = by_queue q parcel (slice_get queues q) p (one_of_all (All (IsParcelHistory step fits pack opened)) queues q k)

      by_address : (o : Option ℕ)
          → IfSome (option_and_then (λ (q : ℕ). option_and_then
          (λ (parcel : Parcel). option_and_then (λ (queue : List Parcel). Some (gave_up pe, slice_set queues q (queue ++ parcel ∷ [])))
          (slice_get queues q)) (front_parcel pe.outbox)) o)
          (λ (after : PeView C × List (List Parcel)). HasHistories step fits pack opened after.0 × All (All (IsParcelHistory step fits pack opened)) after.1)
      by_address None = tt
      by_address (Some q) = by_parcel q (front_parcel pe.outbox) (front_holds step fits pack opened pe.outbox h.outbox)

  -- Deliver
  pub delivered_holds : (pe : PeView C) (queue : List Parcel) → HasHistories step fits pack opened pe
      → All (IsParcelHistory step fits pack opened) queue
      → IfSome (delivered pe queue) (λ after. HasHistories step fits pack opened after.0 × All (IsParcelHistory step fits pack opened) after.1)
  delivered_holds pe queue h k = by queue (is_none pe.hand) k
    where
      by : (queue : List Parcel) (b : Bool) → All (IsParcelHistory step fits pack opened) queue
          → IfSome (option_and_then (λ (front : Parcel × List Parcel). Some (received pe front.0, front.1)) (where_true b (front_of queue)))
          (λ (after : PeView C × List Parcel). HasHistories step fits pack opened after.0 × All (IsParcelHistory step fits pack opened) after.1)
      by queue false all = tt
      by [] true all = tt
      by (x ∷ xs) true all = (
        received_holds step fits pack opened pe x h (All-head (IsParcelHistory step fits pack opened) x xs all),
        All-tail (IsParcelHistory step fits pack opened) x xs all,
      )

  pub deliver_event_holds : (pe : PeView C) (queues : List (List Parcel)) (p : ℕ) → HasHistories step fits pack opened pe
      → All (All (IsParcelHistory step fits pack opened)) queues
      → IfSome (deliver_event pe queues p) (λ after. HasHistories step fits pack opened after.0 × All (All (IsParcelHistory step fits pack opened)) after.1)
  deliver_event_holds pe queues p h k = by_queue (slice_get queues p) (one_of_all (All (IsParcelHistory step fits pack opened)) queues p k)
    where
      by_delivered : (o : Option (PeView C × List Parcel))
          → IfSome o (λ after. HasHistories step fits pack opened after.0 × All (IsParcelHistory step fits pack opened) after.1)
          → IfSome (option_and_then (λ (after : PeView C × List Parcel). Some (after.0, slice_set queues p after.1)) o)
          (λ (after : PeView C × List (List Parcel)). HasHistories step fits pack opened after.0 × All (All (IsParcelHistory step fits pack opened)) after.1)
      by_delivered None d = tt
      by_delivered (Some after) d = (d.0, All-set (All (IsParcelHistory step fits pack opened)) queues p after.1 d.1 k)

      by_queue : (o : Option (List Parcel)) → IfSome o (All (IsParcelHistory step fits pack opened))
          → IfSome (option_and_then (λ (queue : List Parcel). option_and_then
          (λ (after : PeView C × List Parcel). Some (after.0, slice_set queues p after.1)) (delivered pe queue)) o)
          (λ (after : PeView C × List (List Parcel)). HasHistories step fits pack opened after.0 × All (All (IsParcelHistory step fits pack opened)) after.1)
      by_queue None all = tt
      by_queue (Some queue) all = by_delivered (delivered pe queue) (delivered_holds pe queue h all)

  module _ (counted : C → Type 0) (unpack : List ℕ → Result (C × ℕ) PupError)
      (trip : (s : C) (rest : List ℕ) → fits s → counted s → length (pack s) ≤ STATE_BYTES → unpack (pack s ++ rest) ≡ Ok (s, length (pack s)))
      (packs : (s : C) → fits s → counted s × (length (pack s) ≤ STATE_BYTES)) where
    -- Act
    pub act_event_holds : (pe : PeView C) → HasHistories step fits pack opened pe → IfSome (act_event step pack unpack pe) (λ after. HasHistories step fits pack opened after.0)
    act_event_holds pe h = by (acting step pack unpack pe) (acting_holds step fits pack opened counted unpack trip packs pe h)
      where
        by : (o : Option (Acting C)) → IfSome o (λ a. HasHistories step fits pack opened a.pe)
            → IfSome {T = PeView C × List TraceEntry} (option_map (λ (a : Acting C). (a.pe, a.trace)) o) (λ after. HasHistories step fits pack opened after.0)
        by None k = tt
        by (Some a) k = k

-- the board keeps its elements and its PEs, whatever note it takes
pub board_after_kept : {A : Type 0} (b : BoardState A) (note : Note) → IfSome (board_after b note) (λ after. (elements after.database ≡ elements b.database) × (after.pes ≡ b.pes))
board_after_kept {A} b (Sync e round units bytes pe) =
    where_holds (λ (after : BoardState A). (elements after.database ≡ elements b.database) × (after.pes ≡ b.pes)) _
    (after_report b e units bytes pe) (length-set {A = ℕ} b.database.loads e _, refl)
board_after_kept {A} b (Finish e) =
    where_holds (λ (after : BoardState A). (elements after.database ≡ elements b.database) × (after.pes ≡ b.pes)) _ (after_finish b e) (refl, refl)

-- After the step of a PE, whether it was enabled or not.
module _ {C : Type 0} (step : Step C) (fits : C → Type 0) (pack : C → List ℕ) (opened : List C) where
  pub pe_kept : {V E : Type 0} (pe pe' : PeView C) (o : Option (PeView C × List TraceEntry)) (r : Result V E) (items : V → List TraceEntry)
      → HasHistories step fits pack opened pe → IfSome o (λ after. HasHistories step fits pack opened after.0)
      → IfOk r (λ v. (pe', items v) ≡ or_same (pe, []) o) → OnErr r (pe' ≡ pe) → HasHistories step fits pack opened pe'
  pe_kept pe pe' o (Ok v) items h k ok err =
      subst (λ (x : PeView C × List TraceEntry). HasHistories step fits pack opened x.0) (sym ok)
      (or_same_holds (λ (x : PeView C × List TraceEntry). HasHistories step fits pack opened x.0) (pe, []) o h k)
  pe_kept pe pe' o (Err e) items h k ok err = subst (λ (x : PeView C). HasHistories step fits pack opened x) (sym err) h

  pub words_kept : {V E : Type 0} (pe pe' : PeView C) (words words' : List ℕ) (o : Option (PeView C × List ℕ × List TraceEntry)) (r : Result V E) (items : V → List TraceEntry)
      → HasHistories step fits pack opened pe → IfSome o (λ after. HasHistories step fits pack opened after.0)
      → IfOk r (λ v. (pe', words', items v) ≡ or_same (pe, words, []) o) → OnErr r (pe' ≡ pe) → HasHistories step fits pack opened pe'
  words_kept pe pe' words words' o (Ok v) items h k ok err =
      subst (λ (x : PeView C × List ℕ × List TraceEntry). HasHistories step fits pack opened x.0) (sym ok)
      (or_same_holds (λ (x : PeView C × List ℕ × List TraceEntry). HasHistories step fits pack opened x.0) (pe, words, []) o h k)
  words_kept pe pe' words words' o (Err e) items h k ok err = subst (λ (x : PeView C). HasHistories step fits pack opened x) (sym err) h

  pub queues_kept : (pe pe' : PeView C) (queues queues' : List (List Parcel)) (o : Option (PeView C × List (List Parcel)))
      → HasHistories step fits pack opened pe → All (All (IsParcelHistory step fits pack opened)) queues
      → IfSome o (λ after. HasHistories step fits pack opened after.0 × All (All (IsParcelHistory step fits pack opened)) after.1)
      → (pe', queues') ≡ or_same (pe, queues) o → HasHistories step fits pack opened pe' × All (All (IsParcelHistory step fits pack opened)) queues'
  queues_kept pe pe' queues queues' o h parcels k ok =
      subst (λ (x : PeView C × List (List Parcel)). HasHistories step fits pack opened x.0 × All (All (IsParcelHistory step fits pack opened)) x.1) (sym ok)
      (or_same_holds (λ (x : PeView C × List (List Parcel)). HasHistories step fits pack opened x.0
      × All (All (IsParcelHistory step fits pack opened)) x.1) (pe, queues) o (h, parcels) k)

  report_event_holds : {A : Type 0} (pe : PeView C) (b : BoardState A) → HasHistories step fits pack opened pe
      → IfSome (report_event pe b) (λ after. HasHistories step fits pack opened after.0 × (elements after.1.database ≡ elements b.database) × (after.1.pes ≡ b.pes))
  report_event_holds {A} pe b h = by_note (slice_get pe.notes 0)
    where
      by_board : (note : Note) (o : Option (BoardState A)) → IfSome o (λ after. (elements after.database ≡ elements b.database) × (after.pes ≡ b.pes))
          → IfSome (option_and_then (λ (after : BoardState A). Some (noted pe, after, note_entries note)) o)
          (λ (after : PeView C × BoardState A × List TraceEntry). HasHistories step fits pack opened after.0
          × (elements after.1.database ≡ elements b.database) × (after.1.pes ≡ b.pes))
      by_board note None k = tt
      by_board note (Some after) k = (noted_holds step fits pack opened pe h, k.0, k.1)

      by_note : (o : Option Note)
          → IfSome (option_and_then (λ (note : Note). option_and_then (λ (after : BoardState A). Some (noted pe, after, note_entries note))
          (board_after b note)) o) (λ (after : PeView C × BoardState A × List TraceEntry). HasHistories step fits pack opened after.0
          × (elements after.1.database ≡ elements b.database) × (after.1.pes ≡ b.pes))
      by_note None = tt
      by_note (Some note) = by_board note (board_after b note) (board_after_kept b note)

  pub board_kept : {A : Type 0} (pe pe' : PeView C) (b b' : BoardState A) (reports : List TraceEntry) → HasHistories step fits pack opened pe
      → (pe', b', reports) ≡ or_same (pe, b, []) (report_event pe b)
      → HasHistories step fits pack opened pe' × (elements b'.database ≡ elements b.database) × (b'.pes ≡ b.pes)
  board_kept {A} pe pe' b b' reports h ok =
      subst (λ (x : PeView C × BoardState A × List TraceEntry). HasHistories step fits pack opened x.0 × (elements x.1.database ≡ elements b.database) × (x.1.pes ≡ b.pes)) (sym ok)
      (or_same_holds (λ (x : PeView C × BoardState A × List TraceEntry). HasHistories step fits pack opened x.0
      × (elements x.1.database ≡ elements b.database) × (x.1.pes ≡ b.pes)) (pe, b, []) (report_event pe b) (h, refl, refl) (report_event_holds pe b h))

  -- Depart
  pub depart_event_holds : {A : Type 0} (p : ℕ) (pe : PeView C) (words : List ℕ) (b : BoardState A) (e : ℕ) → HasHistories step fits pack opened pe
      → IfSome (found e pe.room) (λ el. fits el.chare)
      → IfSome (depart_event step pack p pe words b e) (λ after. HasHistories step fits pack opened after.0)
  depart_event_holds p pe words b e h f =
      and_then_holds (λ after. HasHistories step fits pack opened after.0) _ (due pe b e)
      (λ at _. where_holds (λ after. HasHistories step fits pack opened after.0) _ _ (departed_holds step fits pack opened pe e at.1 h f))
