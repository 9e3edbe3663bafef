-- A search for an event that is enabled.
use Rattle.std.specs.Prelude.{◌≡◌, ℕ, List, [], ◌∷◌, Some, Result}
use Rattle.chares.specs.Steps.{Step}
use Rattle.pup_pack.specs.declared.error.PupError.{PupError}
use Rattle.rts_core.specs.declared.event.Event.{Event}
use Rattle.rts_core.specs.declared.event.Event.TheVariants.{Start, Look, Flush, Deliver, Act, Report, Depart, Resume}
use Rattle.rts_core.specs.Events.{pe_of}
use Rattle.rts_core.specs.Worlds.{WorldView}
use Rattle.courses.specs.Courses.{CourseView, IsEnabled, TakesStep}

-- the events of a PE that name no element, and those of a PE that name this one
abbrev pub events_at : ℕ → List Event
events_at p = Look p ∷ Flush p ∷ Deliver p ∷ Act p ∷ Report p ∷ []

abbrev pub events_for : ℕ → ℕ → List Event
events_for p e = Start p e ∷ Depart p e ∷ Resume p e ∷ []

module _ {C A : Type 0} (step : Step C) (pack : C → List ℕ) (unpack : List ℕ → Result (C × ℕ) PupError) where
  -- none of these events is enabled
  abbrev pub NoneEnabled : WorldView C A → List Event → Type 0
  NoneEnabled w [] = Unit {0}
  NoneEnabled w (event ∷ events) = (¬ (IsEnabled step pack unpack w event)) × NoneEnabled w events

  -- no event of this PE is enabled
  abbrev pub IsQuiet : WorldView C A → ℕ → Type 0
  IsQuiet w p = (event : Event) → pe_of event ≡ Some p → ¬ (IsEnabled step pack unpack w event)

  -- a course takes one step more, with some event
  abbrev pub TakesSome : CourseView C A → CourseView C A → Type 0
  TakesSome before after = (event : Event) × TakesStep step pack unpack before event after
