-- No event but Decide has a trace entry that a round is decided.
use Rattle.std.proofs.Common.{◌≡◌, ℕ, ◌+◌, List, [], ◌∷◌, Option, Some, None, Bool, true, false, Result, Ok, Err, refl, subst, nat_eq}
use Rattle.std.specs.Prelude.{All, Contains, IfSome, slice_get, slice_set, not, ◌==◌, if◌then◌else◌}
use Rattle.std.specs.Option.{option_map, option_and_then}
use Rattle.std.proofs.lemmas.List.Elements.{All-nil, All-cons, All-contains}
use Rattle.std.proofs.lemmas.Option.{option_and_then_some, same_Some}
use Rattle.pup_pack.specs.declared.error.PupError.{PupError}
use Rattle.sync_board.specs.Boards.{BoardState}
use Rattle.chares.specs.declared.carried.Carried.TheVariants.{Letter, Element}
use Rattle.chares.specs.declared.note.Note.{Note}
use Rattle.chares.specs.declared.note.Note.TheVariants.{Sync, Finish}
use Rattle.chares.specs.declared.trace_entry.TraceEntry.{TraceEntry}
use Rattle.chares.specs.declared.trace_entry.TraceEntry.TheVariants as Trace
use Rattle.chares.specs.Elements.{ElementView, PackedView}
use Rattle.chares.specs.Letters.{LetterView}
use Rattle.chares.specs.Posting.{posts_of}
use Rattle.chares.specs.Steps.{Step}
use Rattle.pe_state.specs.Pes.{PeView, Parcel, Item, Acting, noted, resumed, resume_entries, executed, shelving, forwarding, passing, installing, on_letter, on_element, on_parcel, acting_on, acting, departed}
use Rattle.pe_state.specs.Rooms.{found}
use Rattle.rts_core.specs.declared.event.Event.{Event}
use Rattle.rts_core.specs.declared.event.Event.TheVariants.{Start, Look, Flush, Deliver, Act, Report, Decide, Depart, Resume}
use Rattle.rts_core.specs.Events.{After, LocalView, where_true, due, board_after, note_entries, start_event, depart_event, resume_event, act_event, report_event, look_event, flush_event, deliver_event, local_step, local_view, with_local, or_nothing, enabled}
use Rattle.rts_core.specs.Worlds.{WorldView}
use Rattle.rts_core.proofs.EventSteps.{where_some}
use Rattle.event_laws.proofs.AgreeingEvents.{then_so}

-- whether a trace entry says that a round is decided
abbrev pub is_decision : TraceEntry → Bool
is_decision (Trace.Decided r) = true
is_decision r = false

abbrev pub Other : TraceEntry → Type 0
Other r = is_decision r ≡ false

-- no entry of a list says so
abbrev pub Others : List TraceEntry → Type 0
Others reports = All Other reports

pub none_among : (reports : List TraceEntry) (r : ℕ) → Others reports → Contains reports (Trace.Decided r) → ⊥
none_among reports r all here =
    let k : Other (Trace.Decided r) = All-contains Other reports (Trace.Decided r) all here in
    cc

posts_others : (me k : ℕ) (sends : List (ℕ × List ℕ)) → Others (posts_of me k sends)
posts_others me k [] = All-nil Other
posts_others me k (send ∷ sends) = All-cons Other (Trace.Posted (me, k) send.0) (posts_of me (k + 1) sends) refl (posts_others me (k + 1) sends)

note_others : (note : Note) → Others (note_entries note)
note_others (Sync e round units bytes pe) = All-cons Other (Trace.Synced e round) [] refl (All-nil Other)
note_others (Finish e) = All-nil Other

module _ {C : Type 0} (step : Step C) (pack : C → List ℕ) where
  resume_others : (pe : PeView C) (e round : ℕ) → Others (resume_entries step pack pe e round)
  resume_others pe e round = All-cons Other (Trace.Resumed e round) _ refl (posts_others pe.me pe.count _)

  start_event_others : (pe : PeView C) (e : ℕ) (a : PeView C × List TraceEntry) → start_event step pack pe e ≡ Some a → Others a.1
  start_event_others pe e a s =
      option_and_then_some (λ (el : ElementView C). where_true (not el.progress.started) (Some (resumed step pack pe e 0, resume_entries step pack pe e 0))) (found e pe.room) a s
      (λ el at t.
      let both = where_some (not el.progress.started) (Some (resumed step pack pe e 0, resume_entries step pack pe e 0)) a t in
      subst (λ (v : PeView C × List TraceEntry). Others v.1) (same_Some (resumed step pack pe e 0, resume_entries step pack pe e 0) a both.1) (resume_others pe e 0))

  resume_event_others : {A : Type 0} (p : ℕ) (pe : PeView C) (b : BoardState A) (e : ℕ) (a : PeView C × List TraceEntry) → resume_event step pack p pe b e ≡ Some a → Others a.1
  resume_event_others p pe b e a s =
      option_and_then_some (λ (at : ℕ × ℕ). where_true (at.1 == p) (Some (resumed step pack pe e at.0, resume_entries step pack pe e at.0))) (due pe b e) a s
      (λ at d t.
      let both = where_some (at.1 == p) (Some (resumed step pack pe e at.0, resume_entries step pack pe e at.0)) a t in
      subst (λ (v : PeView C × List TraceEntry). Others v.1) (same_Some (resumed step pack pe e at.0, resume_entries step pack pe e at.0) a both.1) (resume_others pe e at.0))

  depart_event_others : {A : Type 0} (p : ℕ) (pe : PeView C) (words : List ℕ) (b : BoardState A) (e : ℕ) (a : PeView C × List ℕ × List TraceEntry)
      → depart_event step pack p pe words b e ≡ Some a → Others a.2
  depart_event_others p pe words b e a s =
      option_and_then_some (λ (at : ℕ × ℕ). where_true (not (at.1 == p)) (Some (departed pack pe e at.1, slice_set words e at.1, Trace.Departed e ∷ []))) (due pe b e) a s
      (λ at d t.
      let both = where_some (not (at.1 == p)) (Some (departed pack pe e at.1, slice_set words e at.1, Trace.Departed e ∷ [])) a t in
      subst (λ (v : PeView C × List ℕ × List TraceEntry). Others v.2) (same_Some (departed pack pe e at.1, slice_set words e at.1, Trace.Departed e ∷ []) a both.1)
      (All-cons Other (Trace.Departed e) [] refl (All-nil Other)))

  report_event_others : {A : Type 0} (pe : PeView C) (b : BoardState A) (a : PeView C × BoardState A × List TraceEntry) → report_event pe b ≡ Some a → Others a.2
  report_event_others {A} pe b a s =
      option_and_then_some (λ note. option_and_then (λ after. Some (noted pe, after, note_entries note)) (board_after b note)) (slice_get pe.notes 0) a s
      (λ note is t.
      option_and_then_some (λ after. Some (noted pe, after, note_entries note)) (board_after b note) a t
      (λ after taken u. subst (λ (v : PeView C × BoardState A × List TraceEntry). Others v.2) (same_Some (noted pe, after, note_entries note) a u) (note_others note)))

  passing_others : (pe : PeView C) (l : LetterView) (look : Option ℕ) → IfSome (passing pe l look) (λ a. Others a.trace)
  passing_others pe l None = tt
  passing_others pe l (Some q) = by (nat_eq q pe.me)
    where
      by : (b : Bool) → Others (if b then shelving pe l else forwarding pe l q).trace
      by true = All-cons Other (Trace.Shelved l.id) [] refl (All-nil Other)
      by false = All-cons Other (Trace.Forwarded l.id) [] refl (All-nil Other)

  letter_others : (pe : PeView C) (l : LetterView) (look : Option ℕ) (o : Option (ElementView C)) → IfSome (on_letter step pack pe l look o) (λ a. Others a.trace)
  letter_others pe l look (Some el) = by el.progress.started
    where
      by : (b : Bool) → IfSome (if b then Some (executed step pack pe l) else None) (λ a. Others a.trace)
      by true = All-cons Other (Trace.Executed l.id l.to) _ refl (posts_others pe.me pe.count _)
      by false = tt
  letter_others pe l look None = passing_others pe l look

  module _ (unpack : List ℕ → Result (C × ℕ) PupError) where
    element_others : (pe : PeView C) (p : PackedView) (o : Option (ElementView C)) → IfSome (on_element step pack unpack pe p o) (λ a. Others a.trace)
    element_others pe p (Some el) = tt
    element_others pe p None = by (unpack p.bytes)
      where
        by : (r : Result (C × ℕ) PupError) → IfSome (installing step pack unpack pe p r) (λ a. Others a.trace)
        by (Err error) = tt
        by (Ok x) = All-cons Other (Trace.Installed p.index) [] refl (All-nil Other)

    hand_others : (pe : PeView C) (o : Option Item) → IfSome (acting_on step pack unpack pe o) (λ a. Others a.trace)
    hand_others pe None = tt
    hand_others pe (Some x) = by x.parcel
      where
        by : (parcel : Parcel) → IfSome (on_parcel step pack unpack pe parcel x.address) (λ a. Others a.trace)
        by (Letter l) = letter_others pe l x.address (found l.to pe.room)
        by (Element p) = element_others pe p (found p.index pe.room)

    act_event_others : (pe : PeView C) (a : PeView C × List TraceEntry) → act_event step pack unpack pe ≡ Some a → Others a.1
    act_event_others pe a s = by (acting step pack unpack pe) (hand_others pe pe.hand) s
      where
        by : (o : Option (Acting C)) → IfSome o (λ x. Others x.trace) → option_map (λ (x : Acting C). (x.pe, x.trace)) o ≡ Some a → Others a.1
        by None k t = cc
        by (Some x) k t = subst (λ (v : PeView C × List TraceEntry). Others v.1) (same_Some (x.pe, x.trace) a t) k

    module _ {A : Type 0} (d : LocalView C A) where
      abbrev pub Quiet : LocalView C A × List TraceEntry → Type 0
      Quiet a = Others a.1

      local_others : (event : Event) (a : LocalView C A × List TraceEntry) → local_step step pack unpack event d ≡ Some a → Quiet a
      local_others (Start q e) a s = then_so Quiet (start_event step pack d.pe e) (λ after. (record d { pe = after.0 }, after.1)) a s
          (λ after is. start_event_others d.pe e after is)
      local_others (Look q) a s = then_so Quiet (look_event d.pe d.words) (λ after. (record d { pe = after }, [])) a s (λ after is. All-nil Other)
      local_others (Flush q) a s = then_so Quiet (flush_event d.pe d.queues) (λ after. (record d { pe = after.0; queues = after.1 }, [])) a s (λ after is. All-nil Other)
      local_others (Deliver q) a s = then_so Quiet (deliver_event d.pe d.queues q) (λ after. (record d { pe = after.0; queues = after.1 }, [])) a s (λ after is. All-nil Other)
      local_others (Act q) a s = then_so Quiet (act_event step pack unpack d.pe) (λ after. (record d { pe = after.0 }, after.1)) a s (λ after is. act_event_others d.pe after is)
      local_others (Report q) a s = then_so Quiet (report_event d.pe d.board)
          (λ after. (record d { pe = after.0; board = after.1 }, after.2)) a s (λ after is. report_event_others d.pe d.board after is)
      local_others Decide a s = cc
      local_others (Depart q e) a s = then_so Quiet (depart_event step pack q d.pe d.words d.board e)
          (λ after. (record d { pe = after.0; words = after.1 }, after.2)) a s (λ after is. depart_event_others q d.pe d.words d.board e after is)
      local_others (Resume q e) a s = then_so Quiet (resume_event step pack q d.pe d.board e)
          (λ after. (record d { pe = after.0 }, after.1)) a s (λ after is. resume_event_others q d.pe d.board e after is)

    module _ {A : Type 0} (w : WorldView C A) where
      bound : {X : Type 0} (o : Option X) (f : X → Option (After C A)) → ((x : X) → o ≡ Some x → Others (or_nothing w (f x)).1) → Others (or_nothing w (option_and_then f o)).1
      bound None f k = All-nil Other
      bound (Some x) f k = k x refl

      -- an event of a PE
      pub enabled_others : (event : Event) (p : ℕ) → Others (or_nothing w (enabled step pack unpack w event p)).1
      enabled_others event p =
          bound (slice_get w.pes p) (λ pe. option_and_then (λ after. Some (with_local w p after.0, after.1)) (local_step step pack unpack event (local_view w pe)))
          (λ pe at. bound (local_step step pack unpack event (local_view w pe)) (λ after. Some (with_local w p after.0, after.1))
          (λ after s. local_others (local_view w pe) event after s))
