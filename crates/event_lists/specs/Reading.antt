-- What the call that reads a list of events returns.
use Rattle.std.specs.Prelude.{◌≡◌, ℕ, ◌⊎◌, List, ◌++◌}
use Rattle.rts_core.specs.declared.event.Event.{Event}
use Rattle.event_lists.specs.declared.error.EventListError.{EventListError}
use Rattle.event_lists.specs.declared.error.EventListError.TheVariants.{OutOfMemory}
use Rattle.event_lists.specs.Text.{event_line, IsWithin}
use Rattle.event_lists.specs.Faults.{IsFault}

-- These bytes begin with the line of an event. Only such bytes need memory.
pub record NeedsMemory (bytes : List ℕ) : Type 0 where
  pub event : Event
  pub tail : List ℕ
  pub spelled : bytes ≡ event_line event ++ tail
  pub within : IsWithin event

-- why bytes are not read: their fault, or that memory was refused
abbrev pub IsRefusal : List ℕ → EventListError → Type 0
IsRefusal bytes e = ((e ≡ OutOfMemory) × NeedsMemory bytes) ⊎ IsFault bytes e
