-- The course of a world: events that were enabled, one after another, each with its trace entries.
use Rattle.std.specs.Prelude.{◌≡◌, ◌⊎◌, ℕ, List, [], ◌∷◌, ◌++◌, map, IsSome, MatchOption, Result, Bool, true, false}
use Rattle.std.specs.List.{flat_map}
use Rattle.sync_board.specs.declared.strategy.Strategy.{Strategy}
use Rattle.chares.specs.Elements.{Refuses}
use Rattle.chares.specs.declared.trace_entry.TraceEntry.{TraceEntry}
use Rattle.chares.specs.Steps.{Step}
use Rattle.lb_database.specs.Measuring.{IsComplete}
use Rattle.pe_state.specs.declared.error.StepError.{StepError}
use Rattle.pe_state.specs.declared.error.StepError.TheVariants.{OutOfMemory}
use Rattle.pup_pack.specs.declared.error.PupError.{PupError}
use Rattle.rts_core.specs.declared.event.Event.{Event}
use Rattle.rts_core.specs.declared.event.Event.TheVariants.{Look, Flush, Deliver, Report}
use Rattle.rts_core.specs.Events.{Happens, enabled, pe_of}
use Rattle.rts_core.specs.Refusals.{RefusesEvent}
use Rattle.rts_core.specs.Worlds.{WorldView}

-- an event that happened, with its trace entries
abbrev pub Made : Type 0
Made = Event × List TraceEntry

-- the events of a course, and its trace
abbrev pub events_of : List Made → List Event
events_of steps = map (λ s. s.0) steps

abbrev pub trace_of : List Made → List TraceEntry
trace_of steps = flat_map (λ s. s.1) steps

-- whether an event may have no trace entry
abbrev pub is_silent : Event → Bool
is_silent (Look p) = true
is_silent (Flush p) = true
is_silent (Deliver p) = true
is_silent (Report p) = true
is_silent event = false

-- a course that is under way: how its rounds are decided, its world, and the steps that led there from the opening
pub record CourseView (C A : Type 0) : Type 0 where
  pub strategy : Strategy
  pub world : WorldView C A
  pub steps : List Made

module _ {C A : Type 0} (step : Step C) (pack : C → List ℕ) (unpack : List ℕ → Result (C × ℕ) PupError) where
  -- an event is enabled: its PE can make that step; or, where the board decides, every element has reported
  abbrev pub IsEnabled : WorldView C A → Event → Type 0
  IsEnabled w event =
      MatchOption (pe_of event) (IsComplete w.board.database) (λ p. IsSome (enabled step pack unpack w event p))

  -- no event at all is enabled
  abbrev pub IsIdle : WorldView C A → Type 0
  IsIdle w = (event : Event) → ¬ (IsEnabled w event)

  -- these steps lead from one world to another: each event was enabled, and had these trace entries
  abbrev pub Leads : WorldView C A → List Made → WorldView C A → Type 0
  Leads w [] last = last ≡ w
  Leads w (made ∷ rest) last =
      (next : WorldView C A) × IsEnabled w made.0 × Happens step pack unpack w made.0 (next, made.1) × Leads next rest last

  -- a course takes one step more, with this event, which was enabled
  abbrev pub TakesStep : CourseView C A → Event → CourseView C A → Type 0
  TakesStep before event after =
      (after.strategy ≡ before.strategy)
      × ((entries : List TraceEntry) × (after.steps ≡ before.steps ++ (event, entries) ∷ []) × IsEnabled before.world event
      × Happens step pack unpack before.world event (after.world, entries))

-- an event may be refused for this reason: memory is, or a handler may return that, or the last round was to be decided
abbrev pub RefusesTaking : {C A : Type 0} → Step C → (C → List ℕ) → Refuses C → (List ℕ → Result (C × ℕ) PupError) → WorldView C A → Event → StepError → Type 0
RefusesTaking step pack refuses unpack w event error = (error ≡ OutOfMemory) ⊎ RefusesEvent step pack refuses unpack w event error
