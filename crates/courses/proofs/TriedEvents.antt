-- An event that has trace entries, and one that has none.
use Rattle.std.proofs.Common.{◌≡◌, ◌≢◌, inl, inr, ◌∙◌, ℕ, List, [], Option, Some, None, false, refl, sym, ap}
use Rattle.std.specs.Prelude.{Result, IsSome, MatchOption}
use Rattle.chares.specs.declared.trace_entry.TraceEntry.{TraceEntry}
use Rattle.chares.specs.Steps.{Step}
use Rattle.sync_board.specs.Boards.{BoardState}
use Rattle.lb_database.specs.Measuring.{IsComplete}
use Rattle.pup_pack.specs.declared.error.PupError.{PupError}
use Rattle.rts_core.specs.declared.event.Event.{Event}
use Rattle.rts_core.specs.Events.{After, Happens, MayDecide, enabled, or_nothing, pe_of}
use Rattle.rts_core.specs.Worlds.{WorldView}
use Rattle.courses.proofs.Shown.{Shows, enabled_shows, not_empty}
use Rattle.courses.specs.Courses.{IsEnabled, is_silent}

module _ {C A : Type 0} (step : Step C) (pack : C → List ℕ) (unpack : List ℕ → Result (C × ℕ) PupError) (w w' : WorldView C A) (event : Event) (reports : List TraceEntry) where
  abbrev Was : Option ℕ → Type 0
  Was o = MatchOption o (IsComplete w.board.database) (λ p. IsSome (enabled step pack unpack w event p))

  abbrev Did : Option ℕ → Type 0
  Did o = MatchOption o (MayDecide w.board w'.board reports × (w' ≡ record w { board = w'.board })) (λ p. (w', reports) ≡ or_nothing w (enabled step pack unpack w event p))

  of_step : (x : Option (After C A)) → (w', reports) ≡ or_nothing w x → reports ≢ [] → IsSome x
  of_step None e some = absurd (some (ap (λ (y : After C A). y.1) e))
  of_step (Some after) e some = refl

  of_decision : MayDecide w.board w'.board reports → reports ≢ [] → IsComplete w.board.database
  of_decision (inl d) some = d.decides.complete
  of_decision (inr early) some = absurd (some early.quiet)

  no_step : (x : Option (After C A)) → Shows x → (w', reports) ≡ or_nothing w x → reports ≡ [] → ¬ (IsSome x) × (w' ≡ w)
  no_step None h e none = (λ is. cc, ap (λ (y : After C A). y.0) e)
  no_step (Some after) h e none = absurd (h (sym (ap (λ (y : After C A). y.1) e) ∙ none))

  no_decision : MayDecide w.board w'.board reports → w' ≡ record w { board = w'.board } → reports ≡ [] → ¬ (IsComplete w.board.database) × (w' ≡ w)
  no_decision (inl d) rest none = absurd (not_empty _ _ (sym d.traced ∙ none))
  no_decision (inr early) rest none = (early.incomplete, rest ∙ ap (λ (b : BoardState A). record w { board = b }) early.same)

  -- an event with a trace entry was enabled
  pub was_enabled : Happens step pack unpack w event (w', reports) → reports ≢ [] → IsEnabled step pack unpack w event
  was_enabled did some = by (pe_of event) did
    where
      by : (o : Option ℕ) → Did o → Was o
      by None d = of_decision d.0 some
      by (Some p) e = of_step (enabled step pack unpack w event p) e some

  -- one without a trace entry, other than a look, a flush, a delivery and a report, was not, and changed
  -- nothing
  pub was_not : is_silent event ≡ false → Happens step pack unpack w event (w', reports) → reports ≡ [] → ¬ (IsEnabled step pack unpack w event) × (w' ≡ w)
  was_not loud did none = by (pe_of event) did
    where
      by : (o : Option ℕ) → Did o → ¬ (Was o) × (w' ≡ w)
      by None d = no_decision d.0 d.1 none
      by (Some p) e = no_step (enabled step pack unpack w event p) (enabled_shows step pack unpack w event p loud) e none
