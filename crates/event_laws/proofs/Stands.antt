-- What the step of a PE does to the board, and where an element is that it resumes.
use Rattle.std.proofs.Common.{◌≡◌, ℕ, ◌≤◌, ◌⊎◌, inl, inr, List, [], ◌∷◌, Some, true, false, arith, refl, sym, subst}
use Rattle.std.specs.Prelude.{Contains, slice_get}
use Rattle.std.proofs.lemmas.Bool.Decides.{nat_tests}
use Rattle.chares.specs.declared.entry.Entry.TheVariants.{Resumption}
use Rattle.chares.specs.declared.note.Note.{Note}
use Rattle.chares.specs.declared.note.Note.TheVariants.{Sync, Finish}
use Rattle.chares.specs.declared.trace_entry.TraceEntry.{TraceEntry}
use Rattle.chares.specs.declared.trace_entry.TraceEntry.TheVariants as Trace
use Rattle.chares.specs.Elements.{ElementView, ran}
use Rattle.chares.specs.Letters.{Done}
use Rattle.chares.specs.Posting.{posts_of}
use Rattle.chares.specs.Steps.{Step}
use Rattle.sync_board.specs.Boards.{BoardState, place_in}
use Rattle.pe_state.specs.Pes.{PeView, resumed}
use Rattle.pe_state.specs.Rooms.{found, ran_in}
use Rattle.rts_core.specs.Accounts.{times}
use Rattle.rts_core.specs.Events.{LocalView, board_after, note_entries, with_local, local_view}
use Rattle.rts_core.specs.Worlds.{WorldView}
use Rattle.event_laws.specs.Barrier.{is_decided, is_resumed, StandsInItsPlace}
use Rattle.rts_core.proofs.WorldSteps.{get_set_same}
use Rattle.event_laws.specs.Agreement.{AgreesAt, Agrees}
use Rattle.event_laws.proofs.Rooms.{found_index, found_changed}
use Rattle.event_laws.proofs.BoardTraces.{Keeps, unlike_synced}
use Rattle.rts_core.proofs.Rooms.{at_place}
use Rattle.event_laws.proofs.Tallies.{one, times-cons, times_there, times_posts, only_member, no_member, member_cases}
use Rattle.rts_core.proofs.Turns.{EachTurn}

pub posted_only : (me k : ℕ) (sends : List (ℕ × List ℕ)) (e r : ℕ) → Contains (posts_of me k sends) (Trace.Resumed e r) → ⊥
posted_only me k sends e r h =
    let is : is_resumed e r (Trace.Resumed e r) ≡ true = grind (arith, nat_tests) in
    let a = times_there (is_resumed e r) (posts_of me k sends) (Trace.Resumed e r) is h in
    let b = times_posts (is_resumed e r) (λ id to. refl) me k sends in
    omega (arith, a, b)

pub same_resumed : (e r x s : ℕ) → Trace.Resumed e r ≡ Trace.Resumed x s → (e ≡ x) × (r ≡ s)
same_resumed e r x s h = (cc, cc)

-- where an element is, before a step of PE p and after it, that is resumed in it
pub record Stood {C A : Type 0} (p : ℕ) (d d' : LocalView C A) (e r : ℕ) : Type 0 where
  pub before : ElementView C
  pub stood : found e d.pe.room ≡ Some before
  pub after : ElementView C
  pub stands : found e d'.pe.room ≡ Some after
  pub same : d'.board ≡ d.board
  pub place : place_in d.board r e ≡ Some p

-- the board takes a note
pub record Takes {A : Type 0} (b b' : BoardState A) (rs : List TraceEntry) : Type 0 where
  pub note : Note
  pub taken : board_after b note ≡ Some b'
  pub told : rs ≡ note_entries note

-- what the step of PE p means for the board and for the elements that it resumes
pub record Turned {C A : Type 0} (p : ℕ) (d : LocalView C A) (a : LocalView C A × List TraceEntry) : Type 0 where
  pub board : Keeps d.board a.0.board a.1 ⊎ Takes d.board a.0.board a.1
  pub stands : (e r : ℕ) → 1 ≤ r → Contains a.1 (Trace.Resumed e r) → Stood p d a.0 e r

module _ {C A : Type 0} (step : Step C) (pack : C → List ℕ) (p : ℕ) (d : LocalView C A) where
  -- the board is the same, and nothing is decided
  plain : (a : LocalView C A × List TraceEntry) → a.0.board ≡ d.board → ((r : ℕ) → times (is_decided r) a.1 ≡ 0)
      → ((e r : ℕ) → 1 ≤ r → Contains a.1 (Trace.Resumed e r) → Stood p d a.0 e r) → Turned p d a
  plain a same none at =
      record {
        board = inl (record { same = same; undecided = none; placed = λ e r some there. let k = at e r some there in (p, k.place) });
        stands = at;
      }

  -- one trace entry, of something else
  single : (d' : LocalView C A) (report : TraceEntry) → d'.board ≡ d.board → ((r : ℕ) → is_decided r report ≡ false)
      → ((e r : ℕ) → report ≡ Trace.Resumed e r → ⊥) → Turned p d (d', report ∷ [])
  single d' report same none other =
      plain (d', report ∷ []) same
      (λ r. let a = times-cons (is_decided r) report [] in let z : one (is_decided r) report ≡ 0 = rw none refl in omega (arith, a, z))
      (λ e r some there. absurd (other e r (only_member report (Trace.Resumed e r) there)))

  silent : (d' : LocalView C A) → d'.board ≡ d.board → Turned p d (d', [])
  silent d' same = plain (d', []) same (λ r. refl) (λ e r some there. absurd (no_member (Trace.Resumed e r) there))

  -- an element runs, and is resumed for a round or not
  runs : (d' : LocalView C A) (first : TraceEntry) (me k : ℕ) (sends : List (ℕ × List ℕ)) → d'.board ≡ d.board → ((r : ℕ) → is_decided r first ≡ false)
      → ((e r : ℕ) → 1 ≤ r → first ≡ Trace.Resumed e r → Stood p d d' e r) → Turned p d (d', first ∷ posts_of me k sends)
  runs d' first me k sends same none at =
      plain (d', first ∷ posts_of me k sends) same
      (λ r.
      let a = times-cons (is_decided r) first (posts_of me k sends) in
      let z : one (is_decided r) first ≡ 0 = rw none refl in
      let y = times_posts (is_decided r) (λ id to. refl) me k sends in
      omega (arith, a, z, y))
      (λ e r some there. by e r some (member_cases first (posts_of me k sends) (Trace.Resumed e r) there))
    where
      by : (e r : ℕ) → 1 ≤ r → (first ≡ Trace.Resumed e r) ⊎ Contains (posts_of me k sends) (Trace.Resumed e r) → Stood p d d' e r
      by e r some (inl is) = at e r some is
      by e r some (inr there) = absurd (posted_only me k sends e r there)

  note_resumes_none : (note : Note) (e r : ℕ) → Contains (note_entries note) (Trace.Resumed e r) → ⊥
  note_resumes_none (Sync x round units bytes pe) e r h = unlike_synced x round e r (only_member (Trace.Synced x round) (Trace.Resumed e r) h)
  note_resumes_none (Finish x) e r h = no_member (Trace.Resumed e r) h

  ran_found : (room : List (ℕ × ElementView C)) (e n me : ℕ) (done : Done) (el : ElementView C) → found e room ≡ Some el
      → found e (ran_in step pack room e n me done) ≡ Some (ran step pack el n me done)
  ran_found room e n me done el at = rw at (found_changed e (ran step pack el n me done) el room at)

  goes_on_stood : (e round : ℕ) (el : ElementView C) → found e d.pe.room ≡ Some el → place_in d.board round e ≡ Some p
      → (x r : ℕ) → Trace.Resumed e round ≡ Trace.Resumed x r → Stood p d (record d { pe = resumed step pack d.pe e round }) x r
  goes_on_stood e round el at place x r is =
      let same = same_resumed e round x r is in
      subst (λ (v : ℕ). Stood p d (record d { pe = resumed step pack d.pe e round }) v r) same.0
      (subst (λ (v : ℕ). Stood p d (record d { pe = resumed step pack d.pe e round }) e v) same.1
      (record {
        before = el;
        stood = at;
        after = ran step pack el d.pe.n d.pe.me (Resumption round);
        stands = ran_found d.pe.room e d.pe.n d.pe.me (Resumption round) el at;
        same = refl;
        place = place;
      }))

  pub each_turned : EachTurn step pack p d (Turned p d)
  each_turned =
      record {
        starts = λ e el at fresh. runs (record d { pe = resumed step pack d.pe e 0 }) (Trace.Resumed e 0) d.pe.me d.pe.count _ refl (λ r. refl)
            (λ x r some is. let same = (same_resumed e 0 x r is).1 in absurd (omega (arith, some, same)));
        goes_on = λ e round el at waits place. runs (record d { pe = resumed step pack d.pe e round }) (Trace.Resumed e round) d.pe.me d.pe.count _ refl (λ r. refl)
            (λ x r some is. goes_on_stood e round el at place x r is);
        looks = λ word. silent _ refl;
        flushes = λ q parcel queue front at. silent _ refl;
        delivers = λ queue rest parcel at hand is. silent _ refl;
        executes = λ x l el hand is at started. runs _ (Trace.Executed l.id l.to) d.pe.me d.pe.count _ refl (λ r. refl) (λ y r some k. cc);
        shelves = λ x l hand is. single _ (Trace.Shelved l.id) refl (λ r. refl) (λ e r k. cc);
        forwards = λ x l q hand is. single _ (Trace.Forwarded l.id) refl (λ r. refl) (λ e r k. cc);
        installs = λ x packed chare hand is at. single _ (Trace.Installed packed.index) refl (λ r. refl) (λ e r k. cc);
        reports = λ note board at taken. record {
          board = inr (record { note = note; taken = taken; told = refl });
          stands = λ e r some there. absurd (note_resumes_none note e r there);
        };
        departs = λ e q el at. single _ (Trace.Departed e) refl (λ r. refl) (λ x r k. cc);
      }

-- it is the element itself that is found in the room of a PE, where the board and the elements agree
pub found_mine : {C A : Type 0} (n : ℕ) (w : WorldView C A) (p : ℕ) (pe : PeView C) (e : ℕ) (el : ElementView C) → Agrees n w
    → slice_get w.pes p ≡ Some pe → found e pe.room ≡ Some el → el.index ≡ e
found_mine n w p pe e el agrees at stands =
    let here : AgreesAt w.board.database pe = at_place (AgreesAt w.board.database) w.pes p pe agrees.pes at in
    found_index e el pe.room here.keyed stands

-- an element that is in its place on a PE is so in the world with that PE
pub stands_at : {C A : Type 0} (n : ℕ) (w : WorldView C A) (p : ℕ) (pe : PeView C) (d' : LocalView C A) (e r : ℕ)
    → Agrees n w → Agrees n (with_local w p d') → slice_get w.pes p ≡ Some pe → Stood p (local_view w pe) d' e r → StandsInItsPlace w e r × StandsInItsPlace (with_local w p d') e r
stands_at {C} {A} n w p pe d' e r agrees later at s = (
  record { p = p; pe = pe; el = s.before; at = at; stands = s.stood; mine = found_mine n w p pe e s.before agrees at s.stood; place = s.place },
  record {
    p = p;
    pe = d'.pe;
    el = s.after;
    at = get_set_same w.pes p pe d'.pe at;
    stands = s.stands;
    mine = found_mine n (with_local w p d') p d'.pe e s.after later (get_set_same w.pes p pe d'.pe at) s.stands;
    place = subst (λ (v : BoardState A). place_in v r e ≡ Some p) (sym s.same) s.place;
  },
)
