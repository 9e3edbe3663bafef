-- What each event of a world moves.
use Rattle.std.proofs.Common.{◌≡◌, ℕ, ◌+◌, List, [], ◌∷◌, ◌++◌, drop, Option, Some, None, sum_by, arith, refl, sym, ◌∙◌, ap, subst, inl, inr}
use Rattle.std.specs.Prelude.{Result, slice_get, slice_set, not, is_none, ◌==◌, MatchOption}
use Rattle.std.specs.Option.{option_map, option_and_then}
use Rattle.std.proofs.lemmas.Option.{option_and_then_some, same_Some}
use Rattle.std.proofs.lemmas.List.Sums.{sum_by-cons, sum_by_push}
use Rattle.sync_board.specs.Boards.{BoardState, place_in}
use Rattle.chares.specs.declared.carried.Carried.TheVariants.{Letter, Element}
use Rattle.chares.specs.declared.note.Note.{Note}
use Rattle.chares.specs.declared.note.Note.TheVariants.{Sync, Finish}
use Rattle.chares.specs.declared.trace_entry.TraceEntry.{TraceEntry}
use Rattle.chares.specs.declared.trace_entry.TraceEntry.TheVariants.{Departed, Decided}
use Rattle.chares.specs.Elements.{ElementView}
use Rattle.chares.specs.Steps.{Step}
use Rattle.pup_pack.specs.declared.error.PupError.{PupError}
use Rattle.pe_state.specs.Pes.{PeView, Parcel, Item, Acting, wanted, looked, front_address, front_parcel, gave_up, received, noted, resumed, resume_entries, departed, acting, waits_for}
use Rattle.pe_state.specs.Rooms.{found}
use Rattle.rts_core.specs.declared.event.Event.{Event}
use Rattle.rts_core.specs.declared.event.Event.TheVariants.{Start, Look, Flush, Deliver, Act, Report, Decide, Depart, Resume}
use Rattle.rts_core.specs.Events.{After, where_true, front_of, due, board_after, note_entries, look_event, flush_event, delivered, deliver_event, report_event, start_event, depart_event, resume_event, act_event, LocalView, pe_of, local_step, local_view, with_local, or_nothing, enabled, Happens, MayDecide}
use Rattle.rts_core.specs.Worlds.{WorldView}
use Rattle.rts_core.proofs.EventSteps.{where_some, none_is, front_is}
use Rattle.rts_core.proofs.WorldSteps.{Numbered}
use Rattle.event_laws.proofs.LocalMoves.{item_is, looked_moves, resumed_moves, departed_moves, acting_moves}
use Rattle.event_laws.proofs.Moves.{Change, AreQuiet, on_pe}
use Rattle.event_laws.proofs.Moves.Move.{Still}
use Rattle.event_laws.proofs.Sites.{LetterWeight, ElementWeight, parcel_at, item_out, held_at, hand_at, pe_at, queue_at, world_at, sum_from, sum_from-set}
use Rattle.event_laws.proofs.Sites.Site.{Bound}

-- nothing moves where a world weighs what it did
pub still : {C A : Type 0} (w w' : WorldView C A) (rs : List TraceEntry) → ((g : LetterWeight) (k : ElementWeight) → world_at g k w' ≡ world_at g k w)
    → w'.words ≡ w.words → AreQuiet rs → Change w w' rs
still w w' rs same words quiet =
    record { move = Still; stays = w; takes = λ g k. omega arith; puts = λ g k. let a = same g k in omega (arith, a); words = words; facts = quiet }

-- a parcel in a hand without a look, and one in an outbox with an address, weigh what they do in the queue
held_bound : (g : LetterWeight) (k : ElementWeight) (p : ℕ) (x : Parcel) → held_at g k p x None ≡ parcel_at g k (Bound p) x
held_bound g k p (Letter l) = refl
held_bound g k p (Element x) = refl

front_bound : (g : LetterWeight) (k : ElementWeight) (q : ℕ) (x : Parcel) (outbox : List Item) → front_address outbox ≡ Some q
    → front_parcel outbox ≡ Some x → sum_by (item_out g k) outbox ≡ parcel_at g k (Bound q) x + sum_by (item_out g k) (drop 1 outbox)
front_bound g k q x [] a i = cc
front_bound g k q x (y ∷ ys) a i =
    let s : y.parcel ≡ x = same_Some y.parcel x i in
    let is : y ≡ record { parcel = x; address = Some q } = item_is y x (Some q) s a in
    let b : item_out g k y ≡ parcel_at g k (Bound q) x = ap (item_out g k) is in
    let c : sum_by (item_out g k) (y ∷ ys) ≡ item_out g k y + sum_by (item_out g k) ys = sum_by-cons (item_out g k) y ys in
    omega (arith, b, c)

module _ {C A : Type 0} (w : WorldView C A) (p : ℕ) (pe : PeView C) (at : slice_get w.pes p ≡ Some pe) where
  -- the world with what this PE sees after a step
  abbrev pub Seen : LocalView C A × List TraceEntry → Type 0
  Seen a = Change w (with_local w p a.0) a.1

  then_seen : {X : Type 0} (o : Option X) (f : X → LocalView C A × List TraceEntry) (a : LocalView C A × List TraceEntry)
      → option_and_then (λ x. Some (f x)) o ≡ Some a → ((x : X) → o ≡ Some x → Seen (f x)) → Seen a
  then_seen None f a h k = cc
  then_seen (Some x) f a h k = subst (λ (v : LocalView C A × List TraceEntry). Seen v) (same_Some (f x) a h) (k x refl)

  abbrev pub d : LocalView C A
  d = local_view w pe

  -- Look
  look_seen : (a : PeView C) → look_event pe w.words ≡ Some a → Seen (record d { pe = a }, [])
  look_seen a h =
      option_and_then_some (λ e. option_and_then (λ word. Some (looked pe word)) (slice_get w.words e)) (wanted pe) a h
      (λ e is s.
      option_and_then_some (λ word. Some (looked pe word)) (slice_get w.words e) a s
      (λ word there t. subst (λ (v : PeView C). Seen (record d { pe = v }, [])) (same_Some (looked pe word) a t) (looked_moves w p pe at word e is there)))

  -- Flush
  gave_seen : (q : ℕ) (parcel : Parcel) (queue : List Parcel) → front_address pe.outbox ≡ Some q → front_parcel pe.outbox ≡ Some parcel
      → slice_get w.queues q ≡ Some queue → Seen (record d { pe = gave_up pe; queues = slice_set w.queues q (queue ++ parcel ∷ []) }, [])
  gave_seen q parcel queue a i there =
      still w (with_local w p (record d { pe = gave_up pe; queues = slice_set w.queues q (queue ++ parcel ∷ []) })) []
      (λ g k.
      let x : sum_from (λ r (y : PeView C). pe_at g k r y) (slice_set w.pes p (gave_up pe)) + pe_at g k p pe ≡ sum_from
      (λ r (y : PeView C). pe_at g k r y) w.pes + pe_at g k p (gave_up pe) = sum_from-set (λ r (y : PeView C). pe_at g k r y) w.pes p pe (gave_up pe) at in
      let y = sum_from-set (queue_at g k) w.queues q queue (queue ++ parcel ∷ []) there in
      let z = sum_by_push (parcel_at g k (Bound q)) queue parcel in
      let b = front_bound g k q parcel pe.outbox a i in
      omega (arith, x, y, z, b))
      refl tt

  flush_seen : (a : PeView C × List (List Parcel)) → flush_event pe w.queues ≡ Some a → Seen (record d { pe = a.0; queues = a.1 }, [])
  flush_seen a h =
      option_and_then_some (λ q. option_and_then (λ parcel. option_and_then
      (λ queue. Some (gave_up pe, slice_set w.queues q (queue ++ parcel ∷ []))) (slice_get w.queues q)) (front_parcel pe.outbox))
      (front_address pe.outbox) a h
      (λ q is r.
      option_and_then_some (λ parcel. option_and_then (λ queue. Some (gave_up pe, slice_set w.queues q (queue ++ parcel ∷ []))) (slice_get w.queues q)) (front_parcel pe.outbox) a r
      (λ parcel front s.
      option_and_then_some (λ queue. Some (gave_up pe, slice_set w.queues q (queue ++ parcel ∷ []))) (slice_get w.queues q) a s
      (λ queue there t.
      subst (λ (v : PeView C × List (List Parcel)). Seen (record d { pe = v.0; queues = v.1 }, [])) (same_Some (gave_up pe, slice_set w.queues q (queue ++ parcel ∷ [])) a t)
      (gave_seen q parcel queue is front there))))

  -- Deliver
  received_seen : (queue rest : List Parcel) (parcel : Parcel) → slice_get w.queues p ≡ Some queue → queue ≡ parcel ∷ rest → pe.hand ≡ None
      → Seen (record d { pe = received pe parcel; queues = slice_set w.queues p rest }, [])
  received_seen queue rest parcel there is none =
      still w (with_local w p (record d { pe = received pe parcel; queues = slice_set w.queues p rest })) []
      (λ g k.
      let x : sum_from (λ r (y : PeView C). pe_at g k r y) (slice_set w.pes p (received pe parcel)) + pe_at g k p pe ≡ sum_from
      (λ r (y : PeView C). pe_at g k r y) w.pes + pe_at g k p (received pe parcel) = sum_from-set (λ r (y : PeView C). pe_at g k r y)
      w.pes p pe (received pe parcel) at in
      let y = sum_from-set (queue_at g k) w.queues p queue rest there in
      let z : queue_at g k p queue ≡ parcel_at g k (Bound p) parcel + queue_at g k p rest = ap (queue_at g k p) is ∙ sum_by-cons (parcel_at g k (Bound p)) parcel rest in
      let b = held_bound g k p parcel in
      let c : hand_at g k p pe.hand ≡ 0 = ap (hand_at g k p) none in
      omega (arith, x, y, z, b, c))
      refl tt

  deliver_seen : (a : PeView C × List (List Parcel)) → deliver_event pe w.queues p ≡ Some a → Seen (record d { pe = a.0; queues = a.1 }, [])
  deliver_seen a h =
      option_and_then_some (λ queue. option_and_then (λ after. Some (after.0, slice_set w.queues p after.1)) (delivered pe queue)) (slice_get w.queues p) a h
      (λ queue there s.
      option_and_then_some (λ (after : PeView C × List Parcel). Some (after.0, slice_set w.queues p after.1)) (delivered pe queue) a s
      (λ after is t.
      option_and_then_some (λ (front : Parcel × List Parcel). Some (received pe front.0, front.1)) (where_true (is_none pe.hand) (front_of queue)) after is
      (λ front fs u.
      let both = where_some (is_none pe.hand) (front_of queue) front fs in
      let same : (received pe front.0, front.1) ≡ after = same_Some (received pe front.0, front.1) after u in
      subst (λ (v : PeView C × List (List Parcel)). Seen (record d { pe = v.0; queues = v.1 }, [])) (same_Some (after.0, slice_set w.queues p after.1) a t)
      (subst (λ (v : PeView C × List Parcel). Seen (record d { pe = v.0; queues = slice_set w.queues p v.1 }, [])) same
      (received_seen queue front.1 front.0 there (front_is queue front both.1) (none_is pe.hand both.0))))))

  -- Report
  note_quiet : (note : Note) → AreQuiet (note_entries note)
  note_quiet (Sync e round units bytes pe) = (tt, tt)
  note_quiet (Finish e) = tt

  report_event_seen : (a : PeView C × BoardState A × List TraceEntry) → report_event pe w.board ≡ Some a → Seen (record d { pe = a.0; board = a.1 }, a.2)
  report_event_seen a h =
      option_and_then_some (λ note. option_and_then (λ after. Some (noted pe, after, note_entries note)) (board_after w.board note)) (slice_get pe.notes 0) a h
      (λ note is s.
      option_and_then_some (λ after. Some (noted pe, after, note_entries note)) (board_after w.board note) a s
      (λ after there t.
      subst (λ (v : PeView C × BoardState A × List TraceEntry). Seen (record d { pe = v.0; board = v.1 }, v.2)) (same_Some (noted pe, after, note_entries note) a t)
      (on_pe w p pe (noted pe) pe w.words after (note_entries note) Still at (λ g k. omega arith) (λ g k. omega arith) refl (note_quiet note))))

  module _ (step : Step C) (pack : C → List ℕ) where
    -- Start and Resume
    run_seen : (e round : ℕ) (el : ElementView C) (a : PeView C × List TraceEntry) → found e pe.room ≡ Some el
        → (resumed step pack pe e round, resume_entries step pack pe e round) ≡ a → Seen (record d { pe = a.0 }, a.1)
    run_seen e round el a is same = subst (λ (v : PeView C × List TraceEntry). Seen (record d { pe = v.0 }, v.1)) same (resumed_moves w p pe at step pack e round el is)

    start_seen : (e : ℕ) (a : PeView C × List TraceEntry) → start_event step pack pe e ≡ Some a → Seen (record d { pe = a.0 }, a.1)
    start_seen e a h =
        option_and_then_some (λ (el : ElementView C). where_true (not el.progress.started) (Some (resumed step pack pe e 0, resume_entries step pack pe e 0))) (found e pe.room) a h
        (λ el is s. run_seen e 0 el a is (same_Some (resumed step pack pe e 0, resume_entries step pack pe e 0) a
        (where_some (not el.progress.started) (Some (resumed step pack pe e 0, resume_entries step pack pe e 0)) a s).1))

    go_on_seen : (e : ℕ) (a : PeView C × List TraceEntry) → resume_event step pack p pe w.board e ≡ Some a → Seen (record d { pe = a.0 }, a.1)
    go_on_seen e a h =
        option_and_then_some (λ (at : ℕ × ℕ). where_true (at.1 == p) (Some (resumed step pack pe e at.0, resume_entries step pack pe e at.0))) (due pe w.board e) a h
        (λ at is s.
        option_and_then_some (λ (el : ElementView C). option_and_then
        (λ round. option_and_then (λ q. Some (round, q)) (place_in w.board round e)) (waits_for el)) (found e pe.room) at is
        (λ el there rest. run_seen e at.0 el a there (same_Some (resumed step pack pe e at.0, resume_entries step pack pe e at.0) a
        (where_some (at.1 == p) (Some (resumed step pack pe e at.0, resume_entries step pack pe e at.0)) a s).1)))

    -- Depart
    leave_seen : (e : ℕ) (a : PeView C × List ℕ × List TraceEntry) → depart_event step pack p pe w.words w.board e ≡ Some a → Seen (record d { pe = a.0; words = a.1 }, a.2)
    leave_seen e a h =
        option_and_then_some (λ (at : ℕ × ℕ). where_true (not (at.1 == p)) (Some (departed pack pe e at.1, slice_set w.words e at.1, Departed e ∷ []))) (due pe w.board e) a h
        (λ at is s.
        option_and_then_some (λ (el : ElementView C). option_and_then
        (λ round. option_and_then (λ q. Some (round, q)) (place_in w.board round e)) (waits_for el)) (found e pe.room) at is
        (λ el there rest.
        let t : (departed pack pe e at.1, slice_set w.words e at.1, Departed e ∷ []) ≡ a = same_Some
        (departed pack pe e at.1, slice_set w.words e at.1, Departed e ∷ []) a
        (where_some (not (at.1 == p)) (Some (departed pack pe e at.1, slice_set w.words e at.1, Departed e ∷ [])) a s).1 in
        subst (λ (v : PeView C × List ℕ × List TraceEntry). Seen (record d { pe = v.0; words = v.1 }, v.2)) t (departed_here e at.1 el there)))
      where
        departed_here : (e q : ℕ) (el : ElementView C) → found e pe.room ≡ Some el → Seen (record d { pe = departed pack pe e q; words = slice_set w.words e q }, Departed e ∷ [])
        departed_here e q el is = departed_moves w p pe at step pack e q el is

    module _ (unpack : List ℕ → Result (C × ℕ) PupError) (me : pe.me ≡ p) where
      -- Act
      act_seen : (a : PeView C × List TraceEntry) → act_event step pack unpack pe ≡ Some a → Seen (record d { pe = a.0 }, a.1)
      act_seen a h = by (acting step pack unpack pe) refl h
        where
          by : (o : Option (Acting C)) → acting step pack unpack pe ≡ o → option_map (λ (x : Acting C). (x.pe, x.trace)) o ≡ Some a → Seen (record d { pe = a.0 }, a.1)
          by None is s = cc
          by (Some x) is s = subst (λ (v : PeView C × List TraceEntry). Seen (record d { pe = v.0 }, v.1)) (same_Some (x.pe, x.trace) a s)
              (acting_moves w p pe at step pack me unpack x is)

      pub local_seen : (event : Event) (a : LocalView C A × List TraceEntry) → pe_of event ≡ Some p → local_step step pack unpack event d ≡ Some a → Seen a
      local_seen (Start r e) a i h = then_seen (start_event step pack pe e) (λ after. (record d { pe = after.0 }, after.1)) a h (λ after is. start_seen e after is)
      local_seen (Look r) a i h = then_seen (look_event pe w.words) (λ after. (record d { pe = after }, [])) a h (λ after is. look_seen after is)
      local_seen (Flush r) a i h = then_seen (flush_event pe w.queues) (λ after. (record d { pe = after.0; queues = after.1 }, [])) a h (λ after is. flush_seen after is)
      local_seen (Deliver r) a i h =
          let same : r ≡ p = cc in
          then_seen (deliver_event pe w.queues r) (λ after. (record d { pe = after.0; queues = after.1 }, [])) a h
          (λ after is. deliver_seen after (subst (λ (v : ℕ). deliver_event pe w.queues v ≡ Some after) same is))
      local_seen (Act r) a i h = then_seen (act_event step pack unpack pe) (λ after. (record d { pe = after.0 }, after.1)) a h (λ after is. act_seen after is)
      local_seen (Report r) a i h = then_seen (report_event pe w.board) (λ after. (record d { pe = after.0; board = after.1 }, after.2)) a h
          (λ after is. report_event_seen after is)
      local_seen Decide a i h = cc
      local_seen (Depart r e) a i h =
          let same : r ≡ p = cc in
          then_seen (depart_event step pack r pe w.words w.board e) (λ after. (record d { pe = after.0; words = after.1 }, after.2)) a h
          (λ after is. leave_seen e after (subst (λ (v : ℕ). depart_event step pack v pe w.words w.board e ≡ Some after) same is))
      local_seen (Resume r e) a i h =
          let same : r ≡ p = cc in
          then_seen (resume_event step pack r pe w.board e) (λ after. (record d { pe = after.0 }, after.1)) a h
          (λ after is. go_on_seen e after (subst (λ (v : ℕ). resume_event step pack v pe w.board e ≡ Some after) same is))

module _ {C A : Type 0} (step : Step C) (pack : C → List ℕ) (unpack : List ℕ → Result (C × ℕ) PupError) (w : WorldView C A) (numbered : Numbered w) where
  abbrev pub Moves : After C A → Type 0
  Moves a = Change w a.0 a.1

  if_there : {X : Type 0} (o : Option X) (f : X → Option (After C A)) → ((x : X) → o ≡ Some x → Moves (or_nothing w (f x))) → Moves (or_nothing w (option_and_then f o))
  if_there None f h = still w w [] (λ g k. refl) refl tt
  if_there (Some x) f h = h x refl

  enabled_moves : (event : Event) (p : ℕ) → pe_of event ≡ Some p → Moves (or_nothing w (enabled step pack unpack w event p))
  enabled_moves event p i =
      if_there (slice_get w.pes p) (λ pe. option_and_then (λ after. Some (with_local w p after.0, after.1)) (local_step step pack unpack event (local_view w pe)))
      (λ pe at. if_there (local_step step pack unpack event (local_view w pe)) (λ after. Some (with_local w p after.0, after.1))
      (λ after h. local_seen w p pe at step pack unpack (numbered p pe at) event after i h))

  decided_moves : (a : After C A) → MayDecide w.board a.0.board a.1 → a.0 ≡ record w { board = a.0.board } → Moves a
  decided_moves a (inl d) alone =
      subst (λ (v : List TraceEntry). Change w a.0 v) (sym d.traced)
      (subst (λ (v : WorldView C A). Change w v (Decided w.board.database.round ∷ [])) (sym alone)
      (still w (record w { board = a.0.board }) (Decided w.board.database.round ∷ []) (λ g k. refl) refl (tt, tt)))
  decided_moves a (inr t) alone =
      subst (λ (v : List TraceEntry). Change w a.0 v) (sym t.quiet)
      (subst (λ (v : WorldView C A). Change w v []) (sym alone)
      (still w (record w { board = a.0.board }) [] (λ g k. refl) refl tt))

  -- an event
  pub happens_moves : (event : Event) (a : After C A) → Happens step pack unpack w event a → Change w a.0 a.1
  happens_moves event a h = by (pe_of event) refl h
    where
      by : (o : Option ℕ) → pe_of event ≡ o
          → MatchOption o (MayDecide w.board a.0.board a.1 × (a.0 ≡ record w { board = a.0.board })) (λ p. a ≡ or_nothing w (enabled step pack unpack w event p))
          → Change w a.0 a.1
      by None i d = decided_moves a d.0 d.1
      by (Some p) i e = subst (λ (v : After C A). Moves v) (sym e) (enabled_moves event p i)
