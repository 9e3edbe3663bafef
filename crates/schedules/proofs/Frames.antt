-- What a step of a PE leaves as it is: the other PEs, all queues but its own and the one that it puts a parcel into, the rounds that
-- were decided, and the elements that no entry of its trace names.
use Rattle.std.proofs.Common.{◌≡◌, ◌≢◌, ◌∙◌, ℕ, zero, suc, List, [], ◌∷◌, Option, Some, None, Bool, true, false, refl, sym, ap, subst}
use Rattle.std.specs.Prelude.{IfSome, Result, Ok, Err, slice_get, slice_set, if◌then◌else◌, not, is_none, ◌==◌}
use Rattle.std.specs.Option.{option_and_then, option_map, option_map_or}
use Rattle.std.proofs.lemmas.List.{length-set}
use Rattle.sync_board.specs.Boards.{BoardState}
use Rattle.lb_database.specs.Measuring.{elements}
use Rattle.chares.specs.Elements.{ElementView, PackedView}
use Rattle.chares.specs.Letters.{Done, LetterView}
use Rattle.chares.specs.Steps.{Step}
use Rattle.chares.specs.declared.carried.Carried.TheVariants.{Letter, Element}
use Rattle.chares.specs.declared.entry.Entry.TheVariants.{Letter as OfLetter, Resumption}
use Rattle.chares.specs.declared.note.Note.{Note}
use Rattle.chares.specs.declared.note.Note.TheVariants.{Sync, Finish}
use Rattle.chares.specs.declared.trace_entry.TraceEntry.{TraceEntry}
use Rattle.pe_state.specs.Pes.{Acting, Item, Parcel, PeView, acting, acting_on, executed, forwarding, front_address, front_parcel, hand_wants, installing, looked_in, on_element, on_letter, on_parcel, passing, shelving, wanted}
use Rattle.pe_state.specs.Rooms.{changed, found}
use Rattle.pup_pack.specs.declared.error.PupError.{PupError}
use Rattle.rts_core.specs.declared.event.Event.{Event}
use Rattle.rts_core.specs.declared.event.Event.TheVariants as Happening
use Rattle.rts_core.specs.Events.{LocalView, act_event, board_after, deliver_event, delivered, depart_event, due, flush_event, front_of, local_step, look_event, pe_of, report_event, resume_event, start_event, where_true}
use Rattle.schedules.specs.Choices.{AreSilent, put_to}
use Rattle.schedules.proofs.Rooms.{changed_other, joined_other, same_number, without_other}

-- what holds of what follows from something
pub bind_if : {X Y : Type 0} (P : Y → Type 0) (f : X → Option Y) (o : Option X) → ((x : X) → o ≡ Some x → IfSome (f x) P) → IfSome (option_and_then f o) P
bind_if P f None h = tt
bind_if P f (Some x) h = h x refl

true_if : {Y : Type 0} (P : Y → Type 0) (y : Y) → P y → (test : Bool) → IfSome (where_true test (Some y)) P
true_if P y h true = h
true_if P y h false = tt

-- what was found is right
pub of_some : {X : Type 0} (P : X → Type 0) (o : Option X) (x : X) → IfSome o P → o ≡ Some x → P x
of_some P o x h e = subst (λ v. IfSome v P) e h

-- the first entry does not name the element
apart : (x e : ℕ) → Some x ≢ Some e → e ≢ x
apart x e ne same = ne (ap Some (sym same))

module _ {C : Type 0} where
  -- the elements that no entry names are found as before
  abbrev pub KeepsRoom : PeView C → PeView C × List TraceEntry → Type 0
  KeepsRoom pe after = (e : ℕ) → AreSilent e after.1 → found e after.0.room ≡ found e pe.room

  same_room : (pe after : PeView C) (entries : List TraceEntry) → after.room ≡ pe.room → KeepsRoom pe (after, entries)
  same_room pe after entries same e silent = ap (found e) same

  looked_room : (pe : PeView C) (q : ℕ) (o : Option ℕ) → (looked_in pe q o).room ≡ pe.room
  looked_room pe q None = refl
  looked_room pe q (Some e) = refl

module _ {C : Type 0} (step : Step C) (pack : C → List ℕ) where
  ran_other : (room : List (ℕ × ElementView C)) (x n me : ℕ) (done : Done) (e : ℕ) → e ≢ x → (o : Option (ElementView C))
      → found e (option_map_or (λ el. changed x (Rattle.chares.specs.Elements.ran step pack el n me done) room) o room) ≡ found e room
  ran_other room x n me done e ne None = refl
  ran_other room x n me done e ne (Some el) = changed_other e x (Rattle.chares.specs.Elements.ran step pack el n me done) room ne

  start_keeps : (pe : PeView C) (e : ℕ) → IfSome (start_event step pack pe e) (KeepsRoom pe)
  start_keeps pe e =
      bind_if (KeepsRoom pe) _ (found e pe.room)
      (λ el is. true_if (KeepsRoom pe) _ (λ q silent. ran_other pe.room e pe.n pe.me (Resumption 0) q (apart e q silent.0) (found e pe.room)) (not el.progress.started))

  resume_keeps : {A : Type 0} (p : ℕ) (pe : PeView C) (b : BoardState A) (e : ℕ) → IfSome (resume_event step pack p pe b e) (KeepsRoom pe)
  resume_keeps p pe b e =
      bind_if (KeepsRoom pe) _ (due pe b e)
      (λ at is. true_if (KeepsRoom pe) _ (λ q silent. ran_other pe.room e pe.n pe.me (Resumption at.0) q (apart e q silent.0) (found e pe.room)) (at.1 == p))

  depart_keeps : {A : Type 0} (p : ℕ) (pe : PeView C) (words : List ℕ) (b : BoardState A) (e : ℕ)
      → IfSome (depart_event step pack p pe words b e) (λ after. KeepsRoom pe (after.0, after.2))
  depart_keeps p pe words b e =
      bind_if (λ after. KeepsRoom pe (after.0, after.2)) _ (due pe b e)
      (λ at is. true_if (λ after. KeepsRoom pe (after.0, after.2)) _ (λ q silent. without_other q e pe.room (apart e q silent.0)) (not (at.1 == p)))

  module _ (unpack : List ℕ → Result (C × ℕ) PupError) (pe : PeView C) where
    abbrev KeepsActing : Option (Acting C) → Type 0
    KeepsActing o = IfSome o (λ a. KeepsRoom pe (a.pe, a.trace))

    passed_keeps : (l : LetterView) (q : ℕ) (b : Bool) → KeepsActing (Some (if b then shelving pe l else forwarding pe l q))
    passed_keeps l q true = λ e silent. refl
    passed_keeps l q false = λ e silent. refl

    passing_keeps : (l : LetterView) (look : Option ℕ) → KeepsActing (passing pe l look)
    passing_keeps l None = tt
    passing_keeps l (Some q) = passed_keeps l q (q == pe.me)

    executing_keeps : (l : LetterView) (b : Bool) → KeepsActing (if b then Some (executed step pack pe l) else None)
    executing_keeps l true = λ q silent. ran_other pe.room l.to pe.n pe.me (OfLetter l) q (apart l.to q silent.0) (found l.to pe.room)
    executing_keeps l false = tt

    letter_keeps : (l : LetterView) (look : Option ℕ) (o : Option (ElementView C)) → KeepsActing (on_letter step pack pe l look o)
    letter_keeps l look None = passing_keeps l look
    letter_keeps l look (Some el) = executing_keeps l el.progress.started

    installing_keeps : (p : PackedView) (r : Result (C × ℕ) PupError) → KeepsActing (installing step pack unpack pe p r)
    installing_keeps p (Ok x) = λ q silent. joined_other q p.index _ pe.room (apart p.index q silent.0)
    installing_keeps p (Err e) = tt

    element_keeps : (p : PackedView) (o : Option (ElementView C)) → KeepsActing (on_element step pack unpack pe p o)
    element_keeps p (Some el) = tt
    element_keeps p None = installing_keeps p (unpack p.bytes)

    parcel_keeps : (y : Parcel) (look : Option ℕ) → KeepsActing (on_parcel step pack unpack pe y look)
    parcel_keeps (Letter l) look = letter_keeps l look (found l.to pe.room)
    parcel_keeps (Element p) look = element_keeps p (found p.index pe.room)

    item_keeps : (o : Option Item) → KeepsActing (acting_on step pack unpack pe o)
    item_keeps None = tt
    item_keeps (Some x) = parcel_keeps x.parcel x.address

    act_by : (o : Option (Acting C)) → KeepsActing o → IfSome (option_map (λ (a : Acting C). (a.pe, a.trace)) o) (KeepsRoom pe)
    act_by None h = tt
    act_by (Some a) h = h

    act_keeps : IfSome (act_event step pack unpack pe) (KeepsRoom pe)
    act_keeps = act_by (acting step pack unpack pe) (item_keeps pe.hand)

-- the board after a note
report_known : {A : Type 0} (b : BoardState A) (note : Note) → IfSome (board_after b note) (λ after. (after.rounds ≡ b.rounds) × (elements after.database ≡ elements b.database))
report_known b (Sync e round units bytes pe) = true_if
    (λ after. (after.rounds ≡ b.rounds) × (elements after.database ≡ elements b.database)) _ (refl, length-set b.database.loads e _) _
report_known b (Finish e) = true_if (λ after. (after.rounds ≡ b.rounds) × (elements after.database ≡ elements b.database)) _ (refl, refl) _

-- another place of a list
pub other_place : {X : Type 0} (xs : List X) (i k : ℕ) (x : X) → k ≢ i → slice_get (slice_set xs i x) k ≡ slice_get xs k
other_place [] i k x ne = refl
other_place (y ∷ xs) zero zero x ne = absurd (ne refl)
other_place (y ∷ xs) zero (suc k) x ne = refl
other_place (y ∷ xs) (suc i) zero x ne = refl
other_place (y ∷ xs) (suc i) (suc k) x ne = other_place xs i k x (λ e. ne (ap suc e))

module _ {C A : Type 0} where
  -- what the step of an event leaves, of what a PE sees
  pub record Keeps (event : Event) (d : LocalView C A) (after : LocalView C A × List TraceEntry) : Type 0 where
    pub room : KeepsRoom d.pe (after.0.pe, after.1)
    pub rounds : after.0.board.rounds ≡ d.board.rounds
    pub known : elements after.0.board.database ≡ elements d.board.database
    pub queues : (p k : ℕ) → pe_of event ≡ Some p → k ≢ p → Some k ≢ put_to event d.pe → slice_get after.0.queues k ≡ slice_get d.queues k

  module _ (step : Step C) (pack : C → List ℕ) (unpack : List ℕ → Result (C × ℕ) PupError) where
    flush_keeps : (p : ℕ) (d : LocalView C A)
        → IfSome (flush_event d.pe d.queues) (λ after. Keeps (Happening.Flush p) d (record d { pe = after.0; queues = after.1 }, []))
    flush_keeps p d =
        bind_if _ _ (front_address d.pe.outbox) (λ q at.
        bind_if _ _ (front_parcel d.pe.outbox) (λ parcel is.
        bind_if _ _ (slice_get d.queues q) (λ queue there.
        record { room = λ e silent. refl; rounds = refl; known = refl; queues = λ r k e ne other. other_place d.queues q k _ (λ same. other (ap Some same ∙ sym at)) })))

    deliver_keeps : (p : ℕ) (d : LocalView C A)
        → IfSome (deliver_event d.pe d.queues p) (λ after. Keeps (Happening.Deliver p) d (record d { pe = after.0; queues = after.1 }, []))
    deliver_keeps p d =
        bind_if _ _ (slice_get d.queues p) (λ queue there.
        bind_if _ _ (delivered d.pe queue) (λ after is.
        record {
          room = λ e silent. ap (found e) (room_is queue after is);
          rounds = refl;
          known = refl;
          queues = λ r k e ne other. other_place d.queues p k _ (λ same. ne (same ∙ same_number p r e));
        }))
      where
        room_is : (queue : List Parcel) (after : PeView C × List Parcel) → delivered d.pe queue ≡ Some after → after.0.room ≡ d.pe.room
        room_is queue after is =
            of_some (λ (x : PeView C × List Parcel). x.0.room ≡ d.pe.room) (delivered d.pe queue) after
            (bind_if (λ (x : PeView C × List Parcel). x.0.room ≡ d.pe.room) _ (where_true (is_none d.pe.hand) (front_of queue)) (λ front e. refl)) is

    report_keeps : (p : ℕ) (d : LocalView C A)
        → IfSome (report_event d.pe d.board) (λ after. Keeps (Happening.Report p) d (record d { pe = after.0; board = after.1 }, after.2))
    report_keeps p d =
        bind_if _ _ (slice_get d.pe.notes 0) (λ note is.
        bind_if _ _ (board_after d.board note) (λ after so.
        let known = of_some (λ (b : BoardState A). (b.rounds ≡ d.board.rounds) × (elements b.database ≡ elements d.board.database))
        (board_after d.board note) after (report_known d.board note) so in
        record { room = λ e silent. refl; rounds = known.0; known = known.1; queues = λ r k e ne other. refl }))

    look_keeps : (p : ℕ) (d : LocalView C A) → IfSome (look_event d.pe d.words) (λ after. Keeps (Happening.Look p) d (record d { pe = after }, []))
    look_keeps p d =
        bind_if _ _ (wanted d.pe) (λ e is.
        bind_if _ _ (slice_get d.words e) (λ word at.
        record { room = λ q silent. ap (found q) (looked_room d.pe word (hand_wants d.pe)); rounds = refl; known = refl; queues = λ r k s ne other. refl }))

    pub local_keeps : (event : Event) (d : LocalView C A) → IfSome (local_step step pack unpack event d) (Keeps event d)
    local_keeps (Happening.Start p e) d =
        bind_if _ _ (start_event step pack d.pe e) (λ after is.
        record {
          room = of_some (KeepsRoom d.pe) (start_event step pack d.pe e) after (start_keeps step pack d.pe e) is;
          rounds = refl;
          known = refl;
          queues = λ r k s ne other. refl;
        })
    local_keeps (Happening.Look p) d = bind_if _ _ (look_event d.pe d.words) (λ after is. of_some _ (look_event d.pe d.words) after (look_keeps p d) is)
    local_keeps (Happening.Flush p) d = bind_if _ _ (flush_event d.pe d.queues) (λ after is. of_some _ (flush_event d.pe d.queues) after (flush_keeps p d) is)
    local_keeps (Happening.Deliver p) d = bind_if _ _ (deliver_event d.pe d.queues p) (λ after is. of_some _ (deliver_event d.pe d.queues p) after (deliver_keeps p d) is)
    local_keeps (Happening.Act p) d =
        bind_if _ _ (act_event step pack unpack d.pe) (λ after is.
        record {
          room = of_some (KeepsRoom d.pe) (act_event step pack unpack d.pe) after (act_keeps step pack unpack d.pe) is;
          rounds = refl;
          known = refl;
          queues = λ r k s ne other. refl;
        })
    local_keeps (Happening.Report p) d = bind_if _ _ (report_event d.pe d.board) (λ after is. of_some _ (report_event d.pe d.board) after (report_keeps p d) is)
    local_keeps (Happening.Depart p e) d =
        bind_if _ _ (depart_event step pack p d.pe d.words d.board e) (λ after is.
        record {
          room = of_some (λ (a : PeView C × List ℕ × List TraceEntry). KeepsRoom d.pe (a.0, a.2))
              (depart_event step pack p d.pe d.words d.board e) after (depart_keeps step pack p d.pe d.words d.board e) is;
          rounds = refl;
          known = refl;
          queues = λ r k s ne other. refl;
        })
    local_keeps (Happening.Resume p e) d =
        bind_if _ _ (resume_event step pack p d.pe d.board e) (λ after is.
        record {
          room = of_some (KeepsRoom d.pe) (resume_event step pack p d.pe d.board e) after (resume_keeps step pack p d.pe d.board e)
              is;
          rounds = refl;
          known = refl;
          queues = λ r k s ne other. refl;
        })
    local_keeps Happening.Decide d = tt
