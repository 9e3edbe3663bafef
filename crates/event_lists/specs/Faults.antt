-- Which fault of bytes that are the text of no list of events is reported: that of the first faulty line.
use Rattle.std.specs.Prelude.{◌≡◌, ℕ, ◌+◌, ◌^◌, ◌<◌, ◌≤◌, List, ◌++◌, length, All}
use Rattle.rts_core.specs.declared.event.Event.{Event}
use Rattle.event_lists.specs.declared.error.EventListError.{EventListError}
use Rattle.event_lists.specs.declared.error.EventListError.TheVariants.{Form, Limit, TooLong, OutOfMemory}
use Rattle.event_lists.specs.declared.form.TheConstants.{DIGITS}
use Rattle.event_lists.specs.declared.form.TheConstants.EventListLimits.{EVENTS}
use Rattle.event_lists.specs.Text.{event_line, events_text, IsBelow, IsWithin}

-- Each number of an event has ten digits at most. The line of such an event is of one of the nine forms.
abbrev pub IsFormed : Event → Type 0
IsFormed event = IsBelow (10 ^ DIGITS) (10 ^ DIGITS) event

-- these bytes begin with no line of one of the nine forms
abbrev pub IsMalformed : List ℕ → Type 0
IsMalformed bytes = (event : Event) (tail : List ℕ) → IsFormed event → bytes ≡ event_line event ++ tail → ⊥

-- these bytes begin with a line of one of the nine forms, of which a number is out of its range
pub record IsPast (bytes : List ℕ) : Type 0 where
  pub event : Event
  pub tail : List ℕ
  pub formed : IsFormed event
  pub spelled : bytes ≡ event_line event ++ tail
  pub past : IsWithin event → ⊥

-- After the lines of some events that are in their range there is more, and this holds of these events and of what is
-- after their lines.
pub record IsStopped (bytes : List ℕ) (Why : List Event → List ℕ → Type 0) : Type 0 where
  pub events : List Event
  pub rest : List ℕ
  pub spelled : bytes ≡ events_text events ++ rest
  pub within : All IsWithin events
  pub more : 0 < length rest
  pub why : Why events rest

-- the line after these events is line n, and a list may have as many
abbrev pub IsNext : ℕ → List Event → Type 0
IsNext n events = (n ≡ length events + 1) × (n ≤ EVENTS)

-- the fault of bytes that are the text of no list of events
abbrev pub IsFault : List ℕ → EventListError → Type 0
IsFault bytes (Form n) = IsStopped bytes (λ events rest. IsNext n events × IsMalformed rest)
IsFault bytes (Limit n) = IsStopped bytes (λ events rest. IsNext n events × IsPast rest)
IsFault bytes TooLong = IsStopped bytes (λ events rest. length events ≡ EVENTS)
IsFault bytes OutOfMemory = ⊥

-- the number of a kind of fault
abbrev pub error_number : EventListError → ℕ
error_number (Form n) = 1
error_number (Limit n) = 2
error_number TooLong = 3
error_number OutOfMemory = 4
