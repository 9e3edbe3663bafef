-- What an event changes of what is said: a handler that finishes its element adds a note, and a report takes one to the board.
use Rattle.std.proofs.Common.{◌≡◌, ◌≢◌, ℕ, zero, suc, ◌+◌, ◌<◌, List, [], ◌∷◌, ◌++◌, length, drop, Option, Some, None, Bool, true, false, Result, arith, refl, sym, ◌∙◌, ap, subst, inl, inr, nat_eq, get_or}
use Rattle.std.specs.Prelude.{Contains, ◌⊎◌, nat_lt, slice_get, slice_set, is_none, ◌&&◌, ◌==◌}
use Rattle.std.specs.Option.{option_to_list}
use Rattle.std.proofs.lemmas.Bool.Decides.{nat_tests}
use Rattle.std.proofs.lemmas.List.Elements.{Contains-append_left, Contains-append_right, Contains-append_cases}
use Rattle.std.proofs.lemmas.Option.{slice_get-get_or, same_Some}
use Rattle.pup_pack.specs.declared.error.PupError.{PupError}
use Rattle.sync_board.specs.Boards.{BoardState, Decides, after_report, after_finish}
use Rattle.lb_database.specs.Measuring.{elements, report_of}
use Rattle.chares.specs.declared.entry.Entry.TheVariants.{Letter as OfLetter, Resumption}
use Rattle.chares.specs.declared.note.Note.{Note}
use Rattle.chares.specs.declared.note.Note.TheVariants.{Sync, Finish}
use Rattle.chares.specs.declared.progress.Ending.{Ending}
use Rattle.chares.specs.declared.progress.Ending.TheVariants.{Runs, Syncs, Finishes}
use Rattle.chares.specs.declared.progress.Progress.{Progress}
use Rattle.chares.specs.Elements.{ElementView, outcome_of, worked, ending_of, note_of, ran}
use Rattle.chares.specs.Letters.{Done}
use Rattle.chares.specs.Progressing.{entered, ended, note_at}
use Rattle.chares.specs.Steps.{Step}
use Rattle.pe_state.specs.Pes.{PeView, Item, hand_wants, looked_in, looked, gave_up, received, handled, installed, departed, shelving, forwarding}
use Rattle.pe_state.specs.Rooms.{found, changed, ran_in, note_in}
use Rattle.rts_core.specs.declared.event.Event.{Event}
use Rattle.rts_core.specs.Events.{After, LocalView, local_view, with_local, board_after, Happens}
use Rattle.rts_core.specs.Worlds.{WorldView}
use Rattle.rts_core.proofs.EventSteps.{where_some}
use Rattle.rts_core.proofs.Turns.{EachTurn, happens_so}
use Rattle.rts_core.proofs.WorldSteps.{get_set_same, get_set_other}
use Rattle.event_laws.specs.Agreement.{index_of}
use Rattle.event_laws.specs.Finished.{SaysFinished, OwesFinish, IsSaid}
use Rattle.event_laws.proofs.Rooms.{found_changed}
use Rattle.event_laws.proofs.ReportEvent.{first_is}
use Rattle.event_laws.proofs.Tallies.{member_cases}

-- ---- the end of a handler

-- a note says that an element has finished where its handler ends so
pub finish_ends : (p : Progress) (i bytes pe : ℕ) (E : Ending) (e : ℕ) → note_at p i bytes pe E ≡ Some (Finish e) → (i ≡ e) × ((ended p E).finished ≡ true)
finish_ends p i bytes pe Runs e h = cc
finish_ends p i bytes pe Syncs e h = let k : Sync i (p.round + 1) p.load bytes pe ≡ Finish e = same_Some (Sync i (p.round + 1) p.load bytes pe) (Finish e) h in cc
finish_ends p i bytes pe Finishes e h = (ap index_of (same_Some (Finish i) (Finish e) h), refl)

-- and an element that has finished had done so before, or there is a note
pub ends_so : (p : Progress) (i bytes pe : ℕ) (E : Ending) → (ended p E).finished ≡ true → (p.finished ≡ true) ⊎ (note_at p i bytes pe E ≡ Some (Finish i))
ends_so p i bytes pe Runs h = inl h
ends_so p i bytes pe Syncs h = inl h
ends_so p i bytes pe Finishes h = inr refl

-- nobody begins again
ended_keeps : (p : Progress) (E : Ending) → p.finished ≡ true → (ended p E).finished ≡ true
ended_keeps p Runs h = h
ended_keeps p Syncs h = h
ended_keeps p Finishes h = refl

entered_same : (p : Progress) (done : Done) → (entered p done).finished ≡ p.finished
entered_same p (OfLetter l) = refl
entered_same p (Resumption round) = refl

module _ {C : Type 0} (step : Step C) (pack : C → List ℕ) (el : ElementView C) (n me : ℕ) (done : Done) where
  pub ran_keeps : el.progress.finished ≡ true → (ran step pack el n me done).progress.finished ≡ true
  ran_keeps h = ended_keeps (worked step pack el n done) (ending_of step pack el n done) (entered_same el.progress done ∙ h)

  pub ran_new : (ran step pack el n me done).progress.finished ≡ true → (el.progress.finished ≡ true) ⊎ (note_of step pack el n me done ≡ Some (Finish el.index))
  ran_new h =
      by (ends_so (worked step pack el n done) el.index (length (pack (outcome_of step pack el n done).state)) me (ending_of step pack el n done) h)
    where
      by : ((worked step pack el n done).finished ≡ true) ⊎ (note_of step pack el n me done ≡ Some (Finish el.index))
          → (el.progress.finished ≡ true) ⊎ (note_of step pack el n me done ≡ Some (Finish el.index))
      by (inl k) = inl (sym (entered_same el.progress done) ∙ k)
      by (inr k) = inr k

-- ---- lists of notes

only_one : (o : Option Note) (y : Note) → Contains (option_to_list o) y → o ≡ Some y
only_one None y (k, lt, is) = absurd (omega (arith, lt))
only_one (Some x) y (zero, lt, is) = ap Some is
only_one (Some x) y (suc k, lt, is) = absurd (omega (arith, lt))

its_note : (o : Option Note) (y : Note) → o ≡ Some y → Contains (option_to_list o) y
its_note None y h = cc
its_note (Some x) y h = (zero, omega arith, same_Some x y h)

in_all : (x : Note) (xs : List Note) (y : Note) → Contains xs y → Contains (x ∷ xs) y
in_all x xs y (k, lt, is) = (suc k, omega (arith, lt), is)

is_first : (x : Note) (xs : List Note) → Contains (x ∷ xs) x
is_first x xs = (zero, omega arith, refl)

looked_notes : {C : Type 0} (pe : PeView C) (q : ℕ) (o : Option ℕ) → (looked_in pe q o).notes ≡ pe.notes
looked_notes pe q None = refl
looked_notes pe q (Some e) = refl

-- An element with this index is on a PE, and has finished.
pub record StandsFinished {C A : Type 0} (w : WorldView C A) (e : ℕ) : Type 0 where
  pub p : ℕ
  pub key : ℕ
  pub pe : PeView C
  pub el : ElementView C
  pub at : slice_get w.pes p ≡ Some pe
  pub stands : found key pe.room ≡ Some el
  pub mine : el.index ≡ e
  pub done : el.progress.finished ≡ true

-- ---- what a PE does

module _ {C A : Type 0} (w : WorldView C A) (p : ℕ) (pe : PeView C) (at : slice_get w.pes p ≡ Some pe) (e : ℕ) where
  -- a note that is owed afterwards is one of this PE, or was owed before; and the same the other way
  owed_before : (d : LocalView C A) → OwesFinish (with_local w p d) e → Contains d.pe.notes (Finish e) ⊎ OwesFinish w e
  owed_before d (q, x, there, has) = by (nat_eq q p) refl
    where
      by : (b : Bool) → nat_eq q p ≡ b → Contains d.pe.notes (Finish e) ⊎ OwesFinish w e
      by true t =
          let same : q ≡ p = grind (arith, nat_tests) in
          let is : Some d.pe ≡ Some x = sym (get_set_same w.pes p pe d.pe at) ∙ subst (λ (v : ℕ). slice_get (slice_set w.pes p d.pe) v ≡ Some x) same there in
          inl (subst (λ (v : PeView C). Contains v.notes (Finish e)) (sym (same_Some d.pe x is)) has)
      by false t =
          let other : q ≢ p = grind (arith, nat_tests) in
          inr (q, x, sym (get_set_other w.pes p q d.pe other) ∙ there, has)

  owed_after : (d : LocalView C A) → OwesFinish w e → Contains pe.notes (Finish e) ⊎ OwesFinish (with_local w p d) e
  owed_after d (q, x, there, has) = by (nat_eq q p) refl
    where
      by : (b : Bool) → nat_eq q p ≡ b → Contains pe.notes (Finish e) ⊎ OwesFinish (with_local w p d) e
      by true t =
          let same : q ≡ p = grind (arith, nat_tests) in
          let is : Some pe ≡ Some x = sym at ∙ subst (λ (v : ℕ). slice_get w.pes v ≡ Some x) same there in
          inl (subst (λ (v : PeView C). Contains v.notes (Finish e)) (sym (same_Some pe x is)) has)
      by false t =
          let other : q ≢ p = grind (arith, nat_tests) in
          inr (q, x, get_set_other w.pes p q d.pe other ∙ there, has)

  mine_before : Contains pe.notes (Finish e) → IsSaid w e
  mine_before has = inr (p, pe, at, has)

  pub mine_after : (d : LocalView C A) → Contains d.pe.notes (Finish e) → IsSaid (with_local w p d) e
  mine_after d has = inr (p, d.pe, get_set_same w.pes p pe d.pe at, has)

  -- of an event that leaves the notes and the board as they are
  quiet_before : (d : LocalView C A) → d.pe.notes ≡ pe.notes → d.board ≡ w.board → IsSaid (with_local w p d) e → IsSaid w e
  quiet_before d same board (inl says) = inl (subst (λ (v : BoardState A). SaysFinished v e) board says)
  quiet_before d same board (inr owes) = by (owed_before d owes)
    where
      by : Contains d.pe.notes (Finish e) ⊎ OwesFinish w e → IsSaid w e
      by (inl has) = mine_before (subst (λ (v : List Note). Contains v (Finish e)) same has)
      by (inr o) = inr o

  quiet_after : (d : LocalView C A) → pe.notes ≡ d.pe.notes → w.board ≡ d.board → IsSaid w e → IsSaid (with_local w p d) e
  quiet_after d same board (inl says) = inl (subst (λ (v : BoardState A). SaysFinished v e) board says)
  quiet_after d same board (inr owes) = by (owed_after d owes)
    where
      by : Contains pe.notes (Finish e) ⊎ OwesFinish (with_local w p d) e → IsSaid (with_local w p d) e
      by (inl has) = mine_after d (subst (λ (v : List Note). Contains v (Finish e)) same has)
      by (inr o) = inr o

  -- of a handler
  module _ (step : Step C) (pack : C → List ℕ) (f : ℕ) (done : Done) (hand : Option Item) (el : ElementView C) (is : found f pe.room ≡ Some el) where
    abbrev pub then_view : LocalView C A
    then_view = record (local_view w pe) { pe = handled step pack pe f done hand }

    noted : note_in step pack pe.room f pe.n pe.me done ≡ note_of step pack el pe.n pe.me done
    noted = rw is refl

    handled_told : IsSaid (with_local w p then_view) e → IsSaid w e ⊎ StandsFinished (with_local w p then_view) e
    handled_told (inl says) = inl (inl says)
    handled_told (inr owes) = by (owed_before then_view owes)
      where
        new : Contains (option_to_list (note_in step pack pe.room f pe.n pe.me done)) (Finish e) → StandsFinished (with_local w p then_view) e
        new has =
            let note : note_of step pack el pe.n pe.me done ≡ Some (Finish e) = sym noted ∙ only_one (note_in step pack pe.room f pe.n pe.me done) (Finish e) has in
            let both = finish_ends (worked step pack el pe.n done) el.index (length (pack (outcome_of step pack el pe.n done).state)) pe.me
            (ending_of step pack el pe.n done) e note in
            let there : ran_in step pack pe.room f pe.n pe.me done ≡ changed f (ran step pack el pe.n pe.me done) pe.room = rw is refl in
            record {
              p = p;
              key = f;
              pe = handled step pack pe f done hand;
              el = ran step pack el pe.n pe.me done;
              at = get_set_same w.pes p pe (handled step pack pe f done hand) at;
              stands = ap (λ (v : List (ℕ × ElementView C)). found f v) there ∙ found_changed f (ran step pack el pe.n pe.me done) el pe.room is;
              mine = both.0;
              done = both.1;
            }

        or_new : Contains pe.notes (Finish e) ⊎ Contains (option_to_list (note_in step pack pe.room f pe.n pe.me done)) (Finish e)
            → IsSaid w e ⊎ StandsFinished (with_local w p then_view) e
        or_new (inl has) = inl (mine_before has)
        or_new (inr has) = inr (new has)

        by : Contains then_view.pe.notes (Finish e) ⊎ OwesFinish w e → IsSaid w e ⊎ StandsFinished (with_local w p then_view) e
        by (inl has) = or_new (Contains-append_cases pe.notes (option_to_list (note_in step pack pe.room f pe.n pe.me done)) (Finish e) has)
        by (inr o) = inl (inr o)

    handled_after : IsSaid w e → IsSaid (with_local w p then_view) e
    handled_after (inl says) = inl says
    handled_after (inr owes) = by (owed_after then_view owes)
      where
        by : Contains pe.notes (Finish e) ⊎ OwesFinish (with_local w p then_view) e → IsSaid (with_local w p then_view) e
        by (inl has) = mine_after then_view (Contains-append_left pe.notes (option_to_list (note_in step pack pe.room f pe.n pe.me done)) (Finish e) has)
        by (inr o) = inr o

    -- the note of an element that its handler finished is owed afterwards
    pub handled_notes : note_of step pack el pe.n pe.me done ≡ Some (Finish e) → IsSaid (with_local w p then_view) e
    handled_notes note =
        mine_after then_view (Contains-append_right pe.notes (option_to_list (note_in step pack pe.room f pe.n pe.me done)) (Finish e)
        (its_note (note_in step pack pe.room f pe.n pe.me done) (Finish e) (noted ∙ note)))

  -- of a report
  module _ (note : Note) (board : BoardState A) (owed : slice_get pe.notes 0 ≡ Some note) (taken : board_after w.board note ≡ Some board) where
    abbrev pub reported : LocalView C A
    reported = record (local_view w pe) { pe = record pe { notes = drop 1 pe.notes; kept = None }; board = board }

    split : pe.notes ≡ note ∷ drop 1 pe.notes
    split = first_is pe.notes note owed

    says_before : (x : Note) → x ≡ note → board_after w.board x ≡ Some board → SaysFinished board e → IsSaid w e
    says_before (Finish j) s t says =
        let both = where_some (nat_lt j (elements w.board.database)) (Some (after_finish w.board j)) board t in
        by (nat_eq e j) refl (subst (λ (v : BoardState A). SaysFinished v e) (sym (same_Some (after_finish w.board j) board both.1)) says)
      where
        by : (b : Bool) → nat_eq e j ≡ b → SaysFinished (after_finish w.board j) e → IsSaid w e
        by true u k =
            let same : e ≡ j = grind (arith, nat_tests) in
            let first : note ≡ Finish e = sym s ∙ ap Finish (sym same) in
            mine_before (subst (λ (v : List Note). Contains v (Finish e)) (sym split)
            (subst (λ (v : Note). Contains (v ∷ drop 1 pe.notes) (Finish e)) (sym first) (is_first (Finish e) (drop 1 pe.notes))))
        by false u k =
            let other : e ≢ j = grind (arith, nat_tests) in
            inl (sym (get_set_other w.board.finished j e true other) ∙ k)
    says_before (Sync i r u b q) s t says =
        let both = where_some (nat_lt q w.board.pes && (nat_lt i (elements w.board.database) &&
        ((r == w.board.database.round) && is_none (report_of w.board.database i)))) (Some (after_report w.board i u b q)) board t in
        inl (subst (λ (v : BoardState A). SaysFinished v e) (sym (same_Some (after_report w.board i u b q) board both.1)) says)

    reported_told : IsSaid (with_local w p reported) e → IsSaid w e
    reported_told (inl says) = says_before note refl taken says
    reported_told (inr owes) = by (owed_before reported owes)
      where
        by : Contains (drop 1 pe.notes) (Finish e) ⊎ OwesFinish w e → IsSaid w e
        by (inl has) = mine_before (subst (λ (v : List Note). Contains v (Finish e)) (sym split) (in_all note (drop 1 pe.notes) (Finish e) has))
        by (inr o) = inr o

    -- the board knows of each element whether it has finished
    module _ (counted : length w.board.finished ≡ elements w.board.database) where
      says_after : (x : Note) → board_after w.board x ≡ Some board → SaysFinished w.board e → SaysFinished board e
      says_after (Finish j) t says =
          let both = where_some (nat_lt j (elements w.board.database)) (Some (after_finish w.board j)) board t in
          subst (λ (v : BoardState A). SaysFinished v e) (same_Some (after_finish w.board j) board both.1) (by (nat_eq e j) refl)
        where
          by : (b : Bool) → nat_eq e j ≡ b → SaysFinished (after_finish w.board j) e
          by true u =
              let same : e ≡ j = grind (arith, nat_tests) in
              subst (λ (v : ℕ). slice_get (slice_set w.board.finished v true) e ≡ Some true) same (get_set_same w.board.finished e true true says)
          by false u =
              let other : e ≢ j = grind (arith, nat_tests) in
              get_set_other w.board.finished j e true other ∙ says
      says_after (Sync i r u b q) t says =
          let both = where_some (nat_lt q w.board.pes && (nat_lt i (elements w.board.database) &&
          ((r == w.board.database.round) && is_none (report_of w.board.database i)))) (Some (after_report w.board i u b q)) board t in
          subst (λ (v : BoardState A). SaysFinished v e) (same_Some (after_report w.board i u b q) board both.1) says

      finish_says : board_after w.board (Finish e) ≡ Some board → SaysFinished board e
      finish_says t =
          let both = where_some (nat_lt e (elements w.board.database)) (Some (after_finish w.board e)) board t in
          let known : e < elements w.board.database = let k = both.0 in grind (arith, nat_tests) in
          subst (λ (v : BoardState A). SaysFinished v e) (same_Some (after_finish w.board e) board both.1)
          (get_set_same w.board.finished e (get_or w.board.finished e true) true (slice_get-get_or w.board.finished e true (omega (arith, known, counted))))

      reported_after : IsSaid w e → IsSaid (with_local w p reported) e
      reported_after (inl says) = inl (says_after note taken says)
      reported_after (inr owes) = by (owed_after reported owes)
        where
          first : (note ≡ Finish e) ⊎ Contains (drop 1 pe.notes) (Finish e) → IsSaid (with_local w p reported) e
          first (inl s) = inl (finish_says (subst (λ (v : Note). board_after w.board v ≡ Some board) s taken))
          first (inr has) = mine_after reported has

          by : Contains pe.notes (Finish e) ⊎ OwesFinish (with_local w p reported) e → IsSaid (with_local w p reported) e
          by (inl has) = first (member_cases note (drop 1 pe.notes) (Finish e) (subst (λ (v : List Note). Contains v (Finish e)) split has))
          by (inr o) = inr o

  -- ---- in every case

  module _ (step : Step C) (pack : C → List ℕ) where
    pub each_told : EachTurn step pack p (local_view w pe) (λ a. IsSaid (with_local w p a.0) e → IsSaid w e ⊎ StandsFinished (with_local w p a.0) e)
    each_told =
        record {
          starts = λ f el is fresh. handled_told step pack f (Resumption 0) pe.hand el is;
          goes_on = λ f round el is waits place. handled_told step pack f (Resumption round) pe.hand el is;
          looks = λ word s. inl (quiet_before (record (local_view w pe) { pe = looked pe word }) (looked_notes pe word (hand_wants pe)) refl s);
          flushes = λ q parcel queue front there s. inl (quiet_before
              (record (local_view w pe) { pe = gave_up pe; queues = slice_set w.queues q (queue ++ parcel ∷ []) }) refl refl s);
          delivers = λ queue rest parcel there hand is s. inl (quiet_before (record (local_view w pe) { pe = received pe parcel; queues = slice_set w.queues p rest }) refl refl s);
          executes = λ x l el hand is there started. handled_told step pack l.to (OfLetter l) None el there;
          shelves = λ x l hand is s. inl (quiet_before (record (local_view w pe) { pe = (shelving pe l).pe }) refl refl s);
          forwards = λ x l q hand is s. inl (quiet_before (record (local_view w pe) { pe = (forwarding pe l q).pe }) refl refl s);
          installs = λ x pk chare hand is none s. inl (quiet_before (record (local_view w pe) { pe = installed pe pk chare }) refl refl s);
          reports = λ note board owed taken s. inl (reported_told note board owed taken s);
          departs = λ f q el is s. inl (quiet_before (record (local_view w pe) { pe = departed pack pe f q; words = slice_set w.words f q }) refl refl s);
        }

    pub each_after : length w.board.finished ≡ elements w.board.database → EachTurn step pack p (local_view w pe) (λ a. IsSaid w e → IsSaid (with_local w p a.0) e)
    each_after counted =
        record {
          starts = λ f el is fresh. handled_after step pack f (Resumption 0) pe.hand el is;
          goes_on = λ f round el is waits place. handled_after step pack f (Resumption round) pe.hand el is;
          looks = λ word s. quiet_after (record (local_view w pe) { pe = looked pe word }) (sym (looked_notes pe word (hand_wants pe))) refl s;
          flushes = λ q parcel queue front there s. quiet_after (record (local_view w pe) { pe = gave_up pe; queues = slice_set w.queues q (queue ++ parcel ∷ []) }) refl refl s;
          delivers = λ queue rest parcel there hand is s. quiet_after (record (local_view w pe) { pe = received pe parcel; queues = slice_set w.queues p rest }) refl refl s;
          executes = λ x l el hand is there started. handled_after step pack l.to (OfLetter l) None el there;
          shelves = λ x l hand is s. quiet_after (record (local_view w pe) { pe = (shelving pe l).pe }) refl refl s;
          forwards = λ x l q hand is s. quiet_after (record (local_view w pe) { pe = (forwarding pe l q).pe }) refl refl s;
          installs = λ x pk chare hand is none s. quiet_after (record (local_view w pe) { pe = installed pe pk chare }) refl refl s;
          reports = λ note board owed taken s. reported_after note board owed taken counted s;
          departs = λ f q el is s. quiet_after (record (local_view w pe) { pe = departed pack pe f q; words = slice_set w.words f q }) refl refl s;
        }

-- ---- what an event does

module _ {C A : Type 0} (step : Step C) (pack : C → List ℕ) (unpack : List ℕ → Result (C × ℕ) PupError) (w : WorldView C A) (e : ℕ) where
  decided_same : (board : BoardState A) → Decides w.board board → board.finished ≡ w.board.finished
  decided_same board d = ap (λ (v : BoardState A). v.finished) d.next

  -- what is said afterwards was said before, or a handler has just finished its element
  pub event_told : (event : Event) (next : After C A) → Happens step pack unpack w event next → IsSaid next.0 e → IsSaid w e ⊎ StandsFinished next.0 e
  event_told event next happens =
      happens_so step pack unpack w (λ (v : After C A). IsSaid v.0 e → IsSaid w e ⊎ StandsFinished v.0 e)
      (record {
        same = λ s. inl s;
        turn = λ p pe there. each_told w p pe there e step pack;
        decides = λ board d s. by board d s;
      })
      event next happens
    where
      by : (board : BoardState A) → Decides w.board board → IsSaid (record w { board = board }) e → IsSaid w e ⊎ StandsFinished (record w { board = board }) e
      by board d (inl says) = inl (inl (subst (λ (v : List Bool). slice_get v e ≡ Some true) (decided_same board d) says))
      by board d (inr owes) = inl (inr owes)

  -- what was said is said afterwards
  pub event_after : length w.board.finished ≡ elements w.board.database → (event : Event) (next : After C A) → Happens step pack unpack w event next → IsSaid w e → IsSaid next.0 e
  event_after counted event next happens =
      happens_so step pack unpack w (λ (v : After C A). IsSaid w e → IsSaid v.0 e)
      (record {
        same = λ s. s;
        turn = λ p pe there. each_after w p pe there e step pack counted;
        decides = λ board d s. by board d s;
      })
      event next happens
    where
      by : (board : BoardState A) → Decides w.board board → IsSaid w e → IsSaid (record w { board = board }) e
      by board d (inl says) = inl (subst (λ (v : List Bool). slice_get v e ≡ Some true) (sym (decided_same board d)) says)
      by board d (inr owes) = inr owes
