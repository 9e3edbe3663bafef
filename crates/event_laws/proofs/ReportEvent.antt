-- A world and its board still agree after a PE has reported a note.
use Rattle.std.proofs.Common.{◌≡◌, ◌≢◌, ℕ, ◌+◌, ◌<◌, ◌≤◌, List, [], ◌∷◌, drop, Some, Bool, true, false, sum_by, arith, refl, sym, ◌∙◌, ap, subst, nat_eq, length-set}
use Rattle.std.specs.Prelude.{All, slice_get, slice_set, slice_index_or, nat_lt, is_none, ◌&&◌, ◌==◌}
use Rattle.std.specs.Option.{option_and_then}
use Rattle.std.proofs.lemmas.Bool.Decides.{nat_tests}
use Rattle.std.proofs.lemmas.List.Elements.{All-head, All-set}
use Rattle.std.proofs.lemmas.Option.{option_and_then_some, slice_get-get_or, same_Some}
use Rattle.sync_board.specs.Boards.{BoardState, after_report, after_finish}
use Rattle.lb_database.specs.Measuring.{Measured, elements, report_of}
use Rattle.chares.specs.declared.note.Note.{Note}
use Rattle.chares.specs.declared.note.Note.TheVariants.{Sync, Finish}
use Rattle.chares.specs.declared.trace_entry.TraceEntry.{TraceEntry}
use Rattle.chares.specs.Elements.{ElementView}
use Rattle.pe_state.specs.Pes.{PeView, Parcel, noted}
use Rattle.pe_state.specs.Rooms.{found}
use Rattle.rts_core.specs.Events.{board_after, note_entries, report_event}
use Rattle.rts_core.specs.Worlds.{WorldView}
use Rattle.rts_core.proofs.EventSteps.{where_some}
use Rattle.rts_core.proofs.Listings.{no_letter}
use Rattle.rts_core.proofs.OpeningWeights.{one_at}
use Rattle.rts_core.proofs.RunLaws.{by_index}
use Rattle.rts_core.proofs.Weights.{of_parcel, of_item, of_hand, of_pe, of_world, weigh}
use Rattle.rts_core.proofs.WorldSteps.{Numbered, get_set_same, get_set_other}
use Rattle.rts_core.proofs.Rooms.{at_place}
use Rattle.event_laws.proofs.Alone.{each_zero, on_no_other_pe, in_no_queue, pe_le_one}
use Rattle.event_laws.specs.Agreement.{Owes, AgreesWith, AgreesOn, IsOwed, AgreesAt, Agrees}
use Rattle.event_laws.proofs.Rooms.{of_found}
use Rattle.event_laws.proofs.HandlerTurns.{RoomAgrees}
use Rattle.event_laws.proofs.AgreeingHandlers.{ItemAgrees, room_agrees}
use Rattle.event_laws.proofs.Reporting.{all_two, told, told_open, else_parcel, else_hand, else_pe, count_in, found_counts, rest_agrees, reported_agrees}

-- each element is in exactly one place
abbrev pub OnePlace : {C A : Type 0} → ℕ → WorldView C A → Type 0
OnePlace n w = (e : ℕ) → e < n → of_world no_letter (by_index (one_at e)) w ≡ 1

pub first_is : {X : Type 0} (xs : List X) (x : X) → slice_get xs 0 ≡ Some x → xs ≡ x ∷ drop 1 xs
first_is [] x h = cc
first_is (y ∷ ys) x h = ap (λ v. v ∷ ys) (same_Some y x h)

-- what holds of each member that can be read holds of all
pub all_got : {X : Type 0} (P : X → Type 0) (xs : List X) → ((i : ℕ) (x : X) → slice_get xs i ≡ Some x → P x) → All P xs
all_got P xs f = λ k d lt. f k (slice_index_or xs k d) (slice_get-get_or xs k d lt)

module _ {C A : Type 0} (n : ℕ) (w : WorldView C A) (p : ℕ) (pe : PeView C) (h : Agrees n w) (one : OnePlace n w) (at : slice_get w.pes p ≡ Some pe) where
  abbrev pub m : Measured
  m = w.board.database

  abbrev pub with_board : BoardState A → WorldView C A
  with_board b = record { pes = slice_set w.pes p (noted pe); queues = w.queues; words = w.words; board = b }

  here : AgreesAt m pe
  here = at_place (AgreesAt m) w.pes p pe h.pes at

  -- that an element has finished
  finish_agrees : (j : ℕ) → pe.notes ≡ Finish j ∷ drop 1 pe.notes → Numbered (with_board (after_finish w.board j)) → Agrees n (with_board (after_finish w.board j))
  finish_agrees j s numbered =
      let r : RoomAgrees m pe.me pe.room (Finish j ∷ drop 1 pe.notes) = subst (λ (v : List Note). RoomAgrees m pe.me pe.room v) s (room_agrees m pe here) in
      let k : RoomAgrees m pe.me pe.room (drop 1 pe.notes) = rest_agrees m pe.me pe.room (Finish j) (drop 1 pe.notes) r j refl in
      record {
        measured = h.measured;
        numbered = h.numbered;
        counted = length-set {A = PeView C} w.pes p (noted pe) ∙ h.counted;
        places = numbered;
        pes = All-set (AgreesAt m) w.pes p (noted pe) (record { keyed = k.keyed; room = k.each; notes = k.owing; once = k.once; hand = here.hand; outbox = here.outbox }) h.pes;
        queues = h.queues;
      }

  -- that an element waits
  module _ (first : Note) (s : pe.notes ≡ first ∷ drop 1 pe.notes) (el : ElementView C) (found_at : found el.index pe.room ≡ Some el) (owes : Owes m pe.me el first) where
    abbrev then_board : BoardState A
    then_board = after_report w.board el.index owes.units owes.bytes pe.me

    abbrev next : Measured
    next = told m el.index owes.units owes.bytes pe.me

    below : el.index < n
    below =
        let now : AgreesWith m pe.me pe.notes el = of_found (AgreesWith m pe.me pe.notes) el.index el pe.room here.room found_at in
        let k : el.index < elements m = now.known in
        let c : elements m ≡ n = h.measured.counted in
        omega (arith, k, c)

    at_most : of_world no_letter (by_index (one_at el.index)) w ≤ 1
    at_most = let o : of_world no_letter (by_index (one_at el.index)) w ≡ 1 = one el.index below in omega (arith, o)

    in_room : 1 ≤ count_in el.index pe.room
    in_room = found_counts el.index el pe.room found_at refl

    parts : of_hand no_letter (by_index (one_at el.index))
        pe.hand + (sum_by (of_item no_letter (by_index (one_at el.index))) pe.outbox + (sum_by (weigh no_letter) pe.shelf + count_in el.index pe.room)) ≤ 1
    parts = pe_le_one no_letter (by_index (one_at el.index)) w at_most p pe at

    on_pe : 1 ≤ of_pe no_letter (by_index (one_at el.index)) pe
    on_pe =
        let k : of_pe no_letter (by_index (one_at el.index)) pe ≡ of_hand no_letter (by_index (one_at el.index))
        pe.hand + (sum_by (of_item no_letter (by_index (one_at el.index)))
        pe.outbox + (sum_by (weigh no_letter) pe.shelf + count_in el.index pe.room)) = refl in
        let i = in_room in
        omega (arith, k, i)

    own_pe : AgreesAt next (noted pe)
    own_pe =
        let r : RoomAgrees m pe.me pe.room (first ∷ drop 1 pe.notes) = subst (λ (v : List Note). RoomAgrees m pe.me pe.room v) s (room_agrees m pe here) in
        let k : RoomAgrees next pe.me pe.room (drop 1 pe.notes) = reported_agrees m pe.me pe.room first (drop 1 pe.notes) r n h.measured el
        found_at owes (let a = parts in omega (arith, a)) in
        let a = parts in
        let i = in_room in
        record {
          keyed = k.keyed;
          room = k.each;
          notes = k.owing;
          once = k.once;
          hand = else_hand m el.index owes.units owes.bytes pe.me pe.hand here.hand (omega (arith, a, i));
          outbox = all_two (ItemAgrees m) (λ x. of_item no_letter (by_index (one_at el.index)) x ≡ 0) (ItemAgrees next)
              (λ x px zx. else_parcel m el.index owes.units owes.bytes pe.me x.parcel px zx) pe.outbox here.outbox
              (each_zero (of_item no_letter (by_index (one_at el.index))) pe.outbox (omega (arith, a, i)));
        }

    each_pe : (q : ℕ) (x : PeView C) (b : Bool) → nat_eq q p ≡ b → slice_get (slice_set w.pes p (noted pe)) q ≡ Some x → AgreesAt next x
    each_pe q x true t k =
        let e : q ≡ p = grind (arith, nat_tests) in
        let same : Some (noted pe) ≡ Some x = sym (get_set_same w.pes p pe (noted pe) at) ∙ subst (λ (v : ℕ). slice_get (slice_set w.pes p (noted pe)) v ≡ Some x) e k in
        subst (AgreesAt next) (same_Some (noted pe) x same) own_pe
    each_pe q x false t k =
        let e : q ≢ p = grind (arith, nat_tests) in
        let there : slice_get w.pes q ≡ Some x = sym (get_set_other w.pes p q (noted pe) e) ∙ k in
        else_pe m el.index owes.units owes.bytes pe.me x (at_place (AgreesAt m) w.pes q x h.pes there)
        (on_no_other_pe no_letter (by_index (one_at el.index)) w at_most p q pe x at on_pe there (λ r. e (sym r)))

    each_queue : (q : ℕ) (queue : List Parcel) → slice_get w.queues q ≡ Some queue → All (AgreesOn next) queue
    each_queue q queue there =
        all_two (AgreesOn m) (λ x. of_parcel no_letter (by_index (one_at el.index)) x ≡ 0) (AgreesOn next)
        (λ x px zx. else_parcel m el.index owes.units owes.bytes pe.me x px zx) queue
        (at_place (All (AgreesOn m)) w.queues q queue h.queues there)
        (each_zero (of_parcel no_letter (by_index (one_at el.index))) queue (in_no_queue no_letter (by_index (one_at el.index)) w at_most p q pe queue at on_pe there))

    wait_agrees : Numbered (with_board then_board) → Agrees n (with_board then_board)
    wait_agrees numbered =
        record {
          measured = told_open m el.index owes.units owes.bytes pe.me n below h.measured;
          numbered = h.numbered;
          counted = length-set {A = PeView C} w.pes p (noted pe) ∙ h.counted;
          places = numbered;
          pes = all_got (AgreesAt next) (slice_set w.pes p (noted pe)) (λ q x. each_pe q x (nat_eq q p) refl);
          queues = all_got (All (AgreesOn next)) w.queues each_queue;
        }

  -- the first note, whatever it is
  note_agrees : (note : Note) (after : BoardState A) → slice_get pe.notes 0 ≡ Some note → board_after w.board note ≡ Some after
      → Numbered (with_board after) → Agrees n (with_board after)
  note_agrees (Finish j) after is taken =
      let both = where_some (nat_lt j (elements m)) (Some (after_finish w.board j)) after taken in
      subst (λ (v : BoardState A). Numbered (with_board v) → Agrees n (with_board v)) (same_Some (after_finish w.board j) after both.1)
      (finish_agrees j (first_is pe.notes (Finish j) is))
  note_agrees (Sync e r u b q) after is taken =
      let s : pe.notes ≡ Sync e r u b q ∷ drop 1 pe.notes = first_is pe.notes (Sync e r u b q) is in
      let k : RoomAgrees m pe.me pe.room (Sync e r u b q ∷ drop 1 pe.notes) = subst (λ (v : List Note). RoomAgrees m pe.me pe.room v) s (room_agrees m pe here) in
      let o = (All-head (IsOwed m pe.me pe.room) (Sync e r u b q) (drop 1 pe.notes) k.owing).1 refl in
      let el : ElementView C = o.0 in
      let owes : Owes m pe.me el (Sync e r u b q) = o.2 in
      let t : board_after w.board (Sync el.index m.round owes.units owes.bytes pe.me) ≡ Some after = subst (λ (v : Note). board_after w.board v ≡ Some after) owes.says taken in
      let both = where_some (nat_lt pe.me w.board.pes &&
      (nat_lt el.index (elements m) && ((m.round == m.round) && is_none (report_of m el.index))))
      (Some (after_report w.board el.index owes.units owes.bytes pe.me)) after t in
      subst (λ (v : BoardState A). Numbered (with_board v) → Agrees n (with_board v)) (same_Some (after_report w.board el.index owes.units owes.bytes pe.me) after both.1)
      (wait_agrees (Sync e r u b q) s el o.1 owes)

  -- Report
  pub report_event_agrees : (a : PeView C × BoardState A × List TraceEntry) → report_event pe w.board ≡ Some a
      → Numbered (record { pes = slice_set w.pes p a.0; queues = w.queues; words = w.words; board = a.1 })
      → Agrees n (record { pes = slice_set w.pes p a.0; queues = w.queues; words = w.words; board = a.1 })
  report_event_agrees a s =
      option_and_then_some (λ note. option_and_then (λ after. Some (noted pe, after, note_entries note)) (board_after w.board note)) (slice_get pe.notes 0) a s
      (λ note is t.
      option_and_then_some (λ after. Some (noted pe, after, note_entries note)) (board_after w.board note) a t
      (λ after taken u.
      subst (λ (v : PeView C × BoardState A × List TraceEntry). Numbered
      (record { pes = slice_set w.pes p v.0; queues = w.queues; words = w.words; board = v.1 })
      → Agrees n (record { pes = slice_set w.pes p v.0; queues = w.queues; words = w.words; board = v.1 }))
      (same_Some (noted pe, after, note_entries note) a u)
      (note_agrees note after is taken)))
