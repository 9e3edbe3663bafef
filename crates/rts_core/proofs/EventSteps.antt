-- What each event keeps.
use Rattle.std.proofs.Common.{◌≡◌, ℕ, ◌+◌, List, [], ◌∷◌, ◌++◌, Option, Some, None, Bool, true, false, sum_by, arith, refl, sym, ◌∙◌, ap, subst, inl, inr}
use Rattle.std.specs.Prelude.{Result, slice_get, slice_set, not, is_none, ◌==◌, MatchOption}
use Rattle.std.specs.Option.{option_map, option_and_then}
use Rattle.std.proofs.lemmas.Option.{option_and_then_some}
use Rattle.std.proofs.lemmas.List.Sums.{sum_by-cons, sum_by_push}
use Rattle.chares.specs.declared.entry.Entry.TheVariants.{Resumption}
use Rattle.chares.specs.declared.note.Note.{Note}
use Rattle.chares.specs.declared.note.Note.TheVariants.{Sync, Finish}
use Rattle.chares.specs.declared.trace_entry.TraceEntry.{TraceEntry}
use Rattle.chares.specs.declared.trace_entry.TraceEntry.TheVariants.{Departed, Decided}
use Rattle.chares.specs.Elements.{ElementView}
use Rattle.chares.specs.Steps.{Step}
use Rattle.sync_board.specs.Boards.{BoardState, place_in}
use Rattle.pup_pack.specs.declared.error.PupError.{PupError}
use Rattle.pe_state.specs.Pes.{PeView, Parcel, Acting, wanted, looked, front_address, front_parcel, gave_up, received, noted, resumed, resume_entries, departed, acting, waits_for}
use Rattle.pe_state.specs.Rooms.{found}
use Rattle.rts_core.specs.declared.event.Event.{Event}
use Rattle.rts_core.specs.declared.event.Event.TheVariants.{Start, Look, Flush, Deliver, Act, Report, Decide, Depart, Resume}
use Rattle.rts_core.specs.Accounts.{posts, executions}
use Rattle.rts_core.specs.Events.{After, where_true, front_of, due, board_after, note_entries, look_event, flush_event, delivered, deliver_event, report_event, start_event, depart_event, resume_event, act_event, LocalView, pe_of, local_step, local_view, with_local, or_nothing, enabled, Happens, MayDecide}
use Rattle.rts_core.specs.Worlds.{WorldView}
use Rattle.rts_core.proofs.Weights.{Weight, of_parcel, of_queue}
use Rattle.rts_core.proofs.Moves.{Work, Moved, looked_moved, gave_up_moved, received_moved, noted_moved}
use Rattle.rts_core.proofs.HandlerSteps.{resumed_moved, departed_moved}
use Rattle.rts_core.proofs.Acts.{acting_moved}
use Rattle.rts_core.proofs.WorldSteps.{AreOf, Stepped, stays, stepped, sum_at}

pub where_some : {X : Type 0} (b : Bool) (o : Option X) (x : X) → where_true b o ≡ Some x → (b ≡ true) × (o ≡ Some x)
where_some true o x h = (refl, h)
where_some false o x h = cc

pub some_same : {X : Type 0} (x y : X) → Some x ≡ Some y → x ≡ y
some_same x y h = cc

pub none_is : {X : Type 0} (o : Option X) → is_none o ≡ true → o ≡ None
none_is None h = refl
none_is (Some x) h = cc

pub front_is : {X : Type 0} (xs : List X) (front : X × List X) → front_of xs ≡ Some front → xs ≡ front.0 ∷ front.1
front_is [] front h = cc
front_is (x ∷ xs) front h = let e : (x, xs) ≡ front = some_same (x, xs) front h in rw (sym e) refl

-- ---- what each event does to its PE

module _ {C : Type 0} (step : Step C) (pack : C → List ℕ) where
  abbrev pub Makes : PeView C → PeView C × List TraceEntry → Type 0
  Makes pe a = (work : Option (Work C)) × Moved step pe a.0 a.1 work [] []

  pub runs_at : (pe : PeView C) (e round : ℕ) (el : ElementView C) (a : PeView C × List TraceEntry) → found e pe.room ≡ Some el
      → (resumed step pack pe e round, resume_entries step pack pe e round) ≡ a → Makes pe a
  runs_at pe e round el a at h = subst (λ (v : PeView C × List TraceEntry). Makes pe v) h (Some (el, Resumption round), resumed_moved step pack pe e round el at)

  pub start_event_makes : (pe : PeView C) (e : ℕ) (a : PeView C × List TraceEntry) → start_event step pack pe e ≡ Some a → Makes pe a
  start_event_makes pe e a h =
      option_and_then_some (λ (el : ElementView C). where_true (not el.progress.started) (Some (resumed step pack pe e 0, resume_entries step pack pe e 0))) (found e pe.room) a h
      (λ el at s. runs_at pe e 0 el a at (some_same (resumed step pack pe e 0, resume_entries step pack pe e 0) a
      (where_some (not el.progress.started) (Some (resumed step pack pe e 0, resume_entries step pack pe e 0)) a s).1))

  pub resume_event_makes : {A : Type 0} (p : ℕ) (pe : PeView C) (b : BoardState A) (e : ℕ) (a : PeView C × List TraceEntry) → resume_event step pack p pe b e ≡ Some a → Makes pe a
  resume_event_makes p pe b e a h =
      option_and_then_some (λ (at : ℕ × ℕ). where_true (at.1 == p) (Some (resumed step pack pe e at.0, resume_entries step pack pe e at.0))) (due pe b e) a h
      (λ at d s.
      option_and_then_some (λ (el : ElementView C). option_and_then (λ round. option_and_then (λ q. Some (round, q)) (place_in b round e)) (waits_for el)) (found e pe.room) at d
      (λ el is rest. runs_at pe e at.0 el a is (some_same (resumed step pack pe e at.0, resume_entries step pack pe e at.0) a
      (where_some (at.1 == p) (Some (resumed step pack pe e at.0, resume_entries step pack pe e at.0)) a s).1)))

  pub depart_event_makes : {A : Type 0} (p : ℕ) (pe : PeView C) (words : List ℕ) (b : BoardState A) (e : ℕ) (a : PeView C × List ℕ × List TraceEntry)
      → depart_event step pack p pe words b e ≡ Some a → Moved step pe a.0 a.2 None [] []
  depart_event_makes p pe words b e a h =
      option_and_then_some (λ (at : ℕ × ℕ). where_true (not (at.1 == p)) (Some (departed pack pe e at.1, slice_set words e at.1, Departed e ∷ []))) (due pe b e) a h
      (λ at d s.
      let t : (departed pack pe e at.1, slice_set words e at.1, Departed e ∷ []) ≡ a = some_same
      (departed pack pe e at.1, slice_set words e at.1, Departed e ∷ []) a
      (where_some (not (at.1 == p)) (Some (departed pack pe e at.1, slice_set words e at.1, Departed e ∷ [])) a s).1 in
      subst (λ (v : PeView C × List ℕ × List TraceEntry). Moved step pe v.0 v.2 None [] []) t (departed_moved step pack pe e at.1))

module _ {C : Type 0} (step : Step C) where
  pub look_event_makes : (pe : PeView C) (words : List ℕ) (a : PeView C) → look_event pe words ≡ Some a → Moved step pe a [] None [] []
  look_event_makes pe words a h =
      option_and_then_some (λ e. option_and_then (λ word. Some (looked pe word)) (slice_get words e)) (wanted pe) a h
      (λ e is s.
      option_and_then_some (λ word. Some (looked pe word)) (slice_get words e) a s
      (λ word at t. subst (λ (v : PeView C). Moved step pe v [] None [] []) (some_same (looked pe word) a t) (looked_moved step pe word)))

  -- what is flushed goes from the PE to a queue
  pub record Flushes (pe : PeView C) (queues : List (List Parcel)) (a : PeView C × List (List Parcel)) : Type 0 where
    pub parcel : Parcel
    pub moved : Moved step pe a.0 [] None [] (parcel ∷ [])
    pub passes : (g : Weight) (k : _) → sum_by (of_queue g k) a.1 + of_queue g k [] ≡ sum_by (of_queue g k) queues + of_queue g k (parcel ∷ [])

  pub flush_event_makes : (pe : PeView C) (queues : List (List Parcel)) (a : PeView C × List (List Parcel)) → flush_event pe queues ≡ Some a → Flushes pe queues a
  flush_event_makes pe queues a h =
      option_and_then_some (λ q. option_and_then (λ parcel. option_and_then
      (λ queue. Some (gave_up pe, slice_set queues q (queue ++ parcel ∷ []))) (slice_get queues q)) (front_parcel pe.outbox)) (front_address pe.outbox) a h
      (λ q is r.
      option_and_then_some (λ parcel. option_and_then (λ queue. Some (gave_up pe, slice_set queues q (queue ++ parcel ∷ []))) (slice_get queues q)) (front_parcel pe.outbox) a r
      (λ parcel front s.
      option_and_then_some (λ queue. Some (gave_up pe, slice_set queues q (queue ++ parcel ∷ []))) (slice_get queues q) a s
      (λ queue at t.
      subst (λ (v : PeView C × List (List Parcel)). Flushes pe queues v) (some_same (gave_up pe, slice_set queues q (queue ++ parcel ∷ [])) a t)
      (record {
        parcel = parcel;
        moved = gave_up_moved step pe parcel front;
        passes = λ g k.
            let x = sum_at (of_queue g k) queues q queue (queue ++ parcel ∷ []) at in
            let y = sum_by_push (of_parcel g k) queue parcel in
            let z = sum_by-cons (of_parcel g k) parcel [] in
            omega (arith, x, y, z);
      }))))

  -- what is delivered goes from a queue to the PE
  pub record Delivers (pe : PeView C) (queue : List Parcel) (a : PeView C × List Parcel) : Type 0 where
    pub parcel : Parcel
    pub moved : Moved step pe a.0 [] None (parcel ∷ []) []
    pub fronts : queue ≡ parcel ∷ a.1

  pub delivered_makes : (pe : PeView C) (queue : List Parcel) (a : PeView C × List Parcel) → delivered pe queue ≡ Some a → Delivers pe queue a
  delivered_makes pe queue a h =
      option_and_then_some (λ (front : Parcel × List Parcel). Some (received pe front.0, front.1)) (where_true (is_none pe.hand) (front_of queue)) a h
      (λ front is s.
      let both = where_some (is_none pe.hand) (front_of queue) front is in
      subst (λ (v : PeView C × List Parcel). Delivers pe queue v) (some_same (received pe front.0, front.1) a s)
      (record { parcel = front.0; moved = received_moved step pe front.0 (none_is pe.hand both.0); fronts = front_is queue front both.1 }))

  pub note_posts : (note : Note) → posts (note_entries note) ≡ []
  note_posts (Sync e round units bytes pe) = refl
  note_posts (Finish e) = refl

  pub note_executes : (note : Note) → executions (note_entries note) ≡ []
  note_executes (Sync e round units bytes pe) = refl
  note_executes (Finish e) = refl

  pub report_event_makes : {A : Type 0} (pe : PeView C) (b : BoardState A) (a : PeView C × BoardState A × List TraceEntry)
      → report_event pe b ≡ Some a → Moved step pe a.0 a.2 None [] []
  report_event_makes {A} pe b a h =
      option_and_then_some (λ note. option_and_then (λ after. Some (noted pe, after, note_entries note)) (board_after b note)) (slice_get pe.notes 0) a h
      (λ note is s.
      option_and_then_some (λ after. Some (noted pe, after, note_entries note)) (board_after b note) a s
      (λ after at t. subst (λ (v : PeView C × BoardState A × List TraceEntry). Moved step pe v.0 v.2 None [] [])
      (some_same (noted pe, after, note_entries note) a t) (noted_moved step pe (note_entries note) (note_posts note) (note_executes note))))

-- ---- what each event does to what its PE sees

pub record Desks {C A : Type 0} (step : Step C) (d : LocalView C A) (a : LocalView C A × List TraceEntry) : Type 0 where
  pub work : Option (Work C)
  pub came : List Parcel
  pub gone : List Parcel
  pub moved : Moved step d.pe a.0.pe a.1 work came gone
  pub passes : (g : Weight) (k : _) → sum_by (of_queue g k) a.0.queues + of_queue g k came ≡ sum_by (of_queue g k) d.queues + of_queue g k gone

module _ {C A : Type 0} (step : Step C) (pack : C → List ℕ) (unpack : List ℕ → Result (C × ℕ) PupError) (d : LocalView C A) where
  -- a step that passes no parcel
  pub local : (pe : PeView C) (words : List ℕ) (board : BoardState A) (rs : List TraceEntry) → Makes step pack d.pe (pe, rs)
      → Desks step d (record { pe = pe; queues = d.queues; words = words; board = board }, rs)
  local pe words board rs m = record { work = m.0; came = []; gone = []; moved = m.1; passes = λ g k. refl }

  pub then_local : {X : Type 0} (o : Option X) (f : X → LocalView C A × List TraceEntry) (a : LocalView C A × List TraceEntry)
      → option_and_then (λ x. Some (f x)) o ≡ Some a → ((x : X) → o ≡ Some x → Desks step d (f x)) → Desks step d a
  then_local None f a h k = cc
  then_local (Some x) f a h k = subst (λ (v : LocalView C A × List TraceEntry). Desks step d v) (some_same (f x) a h) (k x refl)

  pub act_event_makes : (a : PeView C × List TraceEntry) → act_event step pack unpack d.pe ≡ Some a → Makes step pack d.pe a
  act_event_makes a h = by (acting step pack unpack d.pe) refl h
    where
      by : (o : Option (Acting C)) → acting step pack unpack d.pe ≡ o → option_map (λ (x : Acting C). (x.pe, x.trace)) o ≡ Some a → Makes step pack d.pe a
      by None at s = cc
      by (Some x) at s = subst (λ (v : PeView C × List TraceEntry). Makes step pack d.pe v) (some_same (x.pe, x.trace) a s) (acting_moved step pack unpack d.pe x at)

  pub delivered_local : (p : ℕ) (a : PeView C × List (List Parcel)) → deliver_event d.pe d.queues p ≡ Some a
      → Desks step d (record { pe = a.0; queues = a.1; words = d.words; board = d.board }, [])
  delivered_local p a h =
      option_and_then_some (λ queue. option_and_then (λ after. Some (after.0, slice_set d.queues p after.1)) (delivered d.pe queue)) (slice_get d.queues p) a h
      (λ queue there s.
      option_and_then_some (λ (after : PeView C × List Parcel). Some (after.0, slice_set d.queues p after.1)) (delivered d.pe queue) a s
      (λ after is t.
      let m = delivered_makes step d.pe queue after is in
      subst (λ (v : PeView C × List (List Parcel)). Desks step d (record { pe = v.0; queues = v.1; words = d.words; board = d.board }, []))
      (some_same (after.0, slice_set d.queues p after.1) a t)
      (record {
        work = None;
        came = m.parcel ∷ [];
        gone = [];
        moved = m.moved;
        passes = λ g k.
            let x = sum_at (of_queue g k) d.queues p queue after.1 there in
            let y : of_queue g k queue ≡ of_parcel g k m.parcel + of_queue g k after.1 = ap (of_queue g k) m.fronts ∙ sum_by-cons (of_parcel g k) m.parcel after.1 in
            let z = sum_by-cons (of_parcel g k) m.parcel [] in
            omega (arith, x, y, z);
      })))

  pub flush_event_local : (a : PeView C × List (List Parcel)) → flush_event d.pe d.queues ≡ Some a
      → Desks step d (record { pe = a.0; queues = a.1; words = d.words; board = d.board }, [])
  flush_event_local a h = let m = flush_event_makes step d.pe d.queues a h in record { work = None; came = []; gone = m.parcel ∷ []; moved = m.moved; passes = m.passes }

  pub local_makes : (event : Event) (a : LocalView C A × List TraceEntry) → local_step step pack unpack event d ≡ Some a → Desks step d a
  local_makes (Start p e) a h = then_local (start_event step pack d.pe e) (λ after. (record d { pe = after.0 }, after.1)) a h
      (λ after is. local after.0 d.words d.board after.1 (start_event_makes step pack d.pe e after is))
  local_makes (Look p) a h = then_local (look_event d.pe d.words) (λ after. (record d { pe = after }, [])) a h
      (λ after is. local after d.words d.board [] (None, look_event_makes step d.pe d.words after is))
  local_makes (Flush p) a h = then_local (flush_event d.pe d.queues) (λ after. (record d { pe = after.0; queues = after.1 }, [])) a h (λ after is. flush_event_local after is)
  local_makes (Deliver p) a h = then_local (deliver_event d.pe d.queues p) (λ after. (record d { pe = after.0; queues = after.1 }, [])) a h (λ after is. delivered_local p after is)
  local_makes (Act p) a h = then_local (act_event step pack unpack d.pe) (λ after. (record d { pe = after.0 }, after.1)) a h
      (λ after is. local after.0 d.words d.board after.1 (act_event_makes after is))
  local_makes (Report p) a h = then_local (report_event d.pe d.board) (λ after. (record d { pe = after.0; board = after.1 }, after.2)) a h
      (λ after is. local after.0 d.words after.1 after.2 (None, report_event_makes step d.pe d.board after is))
  local_makes Decide a h = cc
  local_makes (Depart p e) a h = then_local (depart_event step pack p d.pe d.words d.board e)
      (λ after. (record d { pe = after.0; words = after.1 }, after.2)) a h
      (λ after is. local after.0 after.1 d.board after.2 (None, depart_event_makes step pack p d.pe d.words d.board e after is))
  local_makes (Resume p e) a h = then_local (resume_event step pack p d.pe d.board e) (λ after. (record d { pe = after.0 }, after.1)) a h
      (λ after is. local after.0 d.words d.board after.1 (resume_event_makes step pack p d.pe d.board e after is))

-- ---- what each event does to the world

module _ {C A : Type 0} (step : Step C) (pack : C → List ℕ) (unpack : List ℕ → Result (C × ℕ) PupError) (n : ℕ) (w : WorldView C A) (are : AreOf n w) where
  abbrev pub Good : After C A → Type 0
  Good a = Stepped step n w a.0 a.1

  pub bound : {X : Type 0} (o : Option X) (f : X → Option (After C A)) → ((x : X) → o ≡ Some x → Good (or_nothing w (f x))) → Good (or_nothing w (option_and_then f o))
  bound None f h = stays step n w w.words w.board [] are refl refl
  bound (Some x) f h = h x refl

  pub enabled_good : (event : Event) (p : ℕ) → Good (or_nothing w (enabled step pack unpack w event p))
  enabled_good event p =
      bound (slice_get w.pes p) (λ pe. option_and_then (λ after. Some (with_local w p after.0, after.1)) (local_step step pack unpack event (local_view w pe)))
      (λ pe at. bound (local_step step pack unpack event (local_view w pe)) (λ after. Some (with_local w p after.0, after.1))
      (λ after h.
      let m = local_makes step pack unpack (local_view w pe) event after h in
      stepped step n w p pe after.0.pe after.0.queues after.0.words after.0.board after.1 m.work m.came m.gone are at m.moved m.passes))

  pub decided_good : (a : After C A) → MayDecide w.board a.0.board a.1 → a.0 ≡ record w { board = a.0.board } → Good a
  decided_good a (inl d) alone =
      subst (λ (v : List TraceEntry). Stepped step n w a.0 v) (sym d.traced)
      (subst (λ (v : WorldView C A). Stepped step n w v (Decided w.board.database.round ∷ [])) (sym alone)
      (stays step n w w.words a.0.board (Decided w.board.database.round ∷ []) are refl refl))
  decided_good a (inr t) alone =
      subst (λ (v : List TraceEntry). Stepped step n w a.0 v) (sym t.quiet)
      (subst (λ (v : WorldView C A). Stepped step n w v []) (sym alone)
      (stays step n w w.words a.0.board [] are refl refl))

  -- an event
  pub happens_good : (event : Event) (a : After C A) → Happens step pack unpack w event a → Good a
  happens_good event a h = by (pe_of event) h
    where
      by : (o : Option ℕ)
          → MatchOption o (MayDecide w.board a.0.board a.1 × (a.0 ≡ record w { board = a.0.board })) (λ p. a ≡ or_nothing w (enabled step pack unpack w event p))
          → Good a
      by None d = decided_good a d.0 d.1
      by (Some p) e = subst (λ (v : After C A). Good v) (sym e) (enabled_good event p)
