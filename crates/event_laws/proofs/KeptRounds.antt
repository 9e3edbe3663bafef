-- What is kept of a round is never changed: an event of a PE leaves all that is kept as it is, and a decision adds to it.
use Rattle.std.proofs.Common.{◌≡◌, ℕ, zero, suc, ◌⊎◌, inl, inr, List, [], ◌∷◌, ◌++◌, Some, Result, sym, ap, subst}
use Rattle.std.proofs.lemmas.Option.{same_Some}
use Rattle.std.specs.Prelude.{slice_get}
use Rattle.chares.specs.declared.note.Note.{Note}
use Rattle.chares.specs.declared.note.Note.TheVariants.{Sync, Finish}
use Rattle.chares.specs.declared.trace_entry.TraceEntry.{TraceEntry}
use Rattle.chares.specs.Steps.{Step}
use Rattle.sync_board.specs.Boards.{BoardState, Kept, kept_of, after_report, after_finish}
use Rattle.pup_pack.specs.declared.error.PupError.{PupError}
use Rattle.rts_core.specs.declared.event.Event.{Event}
use Rattle.rts_core.specs.Events.{After, LocalView, Happens, board_after, local_view}
use Rattle.rts_core.specs.Worlds.{WorldView}
use Rattle.rts_core.proofs.EventSteps.{where_some}
use Rattle.event_laws.proofs.BoardTraces.{Keeps}
use Rattle.event_laws.proofs.Stands.{Turned, Takes, each_turned}
use Rattle.rts_core.proofs.Turns.{each_map, happens_so}

-- a note that the board takes
note_rounds : {A : Type 0} (b b' : BoardState A) (note : Note) → board_after b note ≡ Some b' → b'.rounds ≡ b.rounds
note_rounds {A} b b' (Sync e round units bytes pe) h =
    let both = where_some _ (Some (after_report b e units bytes pe)) b' h in
    sym (ap (λ (v : BoardState A). v.rounds) (same_Some (after_report b e units bytes pe) b' both.1))
note_rounds {A} b b' (Finish e) h =
    let both = where_some _ (Some (after_finish b e)) b' h in
    sym (ap (λ (v : BoardState A). v.rounds) (same_Some (after_finish b e) b' both.1))

-- an item of a list is at its index in a longer one
item_stays : {X : Type 0} (xs ys : List X) (k : ℕ) (x : X) → slice_get xs k ≡ Some x → slice_get (xs ++ ys) k ≡ Some x
item_stays [] ys k x h = cc
item_stays (y ∷ xs) ys zero x h = h
item_stays (y ∷ xs) ys (suc k) x h = item_stays xs ys k x h

-- what is kept of a round, where more is kept
kept_stays : {A : Type 0} (rounds more : List (Kept A)) (r : ℕ) (kept : Kept A) → kept_of rounds r ≡ Some kept → kept_of (rounds ++ more) r ≡ Some kept
kept_stays rounds more zero kept h = cc
kept_stays rounds more (suc r) kept h = item_stays rounds more r kept h

module _ {C A : Type 0} (step : Step C) (pack : C → List ℕ) (unpack : List ℕ → Result (C × ℕ) PupError) where
  pub event_keeps : (w : WorldView C A) (event : Event) (next : After C A) (r : ℕ) (kept : Kept A) → Happens step pack unpack w event next
      → kept_of w.board.rounds r ≡ Some kept → kept_of next.0.board.rounds r ≡ Some kept
  event_keeps w event next r kept happens h =
      happens_so step pack unpack w
      (λ (v : After C A). kept_of v.0.board.rounds r ≡ Some kept)
      (record {
        same = h;
        turn = λ p pe at. each_map step pack p (local_view w pe) (Turned p (local_view w pe)) (λ a. kept_of a.0.board.rounds r ≡ Some kept)
            (λ a turned. subst (λ (v : List (Kept A)). kept_of v r ≡ Some kept) (sym (rounds_of a turned.board)) h)
            (each_turned step pack p (local_view w pe));
        decides = λ board d. subst (λ (v : BoardState A). kept_of v.rounds r ≡ Some kept) (sym d.next) (kept_stays w.board.rounds (d.kept ∷ []) r kept h);
      })
      event next happens
    where
      rounds_of : (a : LocalView C A × List TraceEntry) → Keeps w.board a.0.board a.1 ⊎ Takes w.board a.0.board a.1 → a.0.board.rounds ≡ w.board.rounds
      rounds_of a (inl k) = ap (λ (v : BoardState A). v.rounds) k.same
      rounds_of a (inr k) = note_rounds w.board a.0.board k.note k.taken
