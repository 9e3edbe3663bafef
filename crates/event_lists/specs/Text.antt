-- The text of a list of events, byte by byte: a line for each event, in order.
use Rattle.std.specs.Prelude.{◌≡◌, ℕ, ◌<◌, ◌≤◌, List, [], ◌∷◌, ◌++◌, length, codes, All, Option, Some, None, IfSome}
use Rattle.std.specs.Fmt.{decimal}
use Rattle.std.specs.List.{flat_map}
use Rattle.chare_index.specs.declared.limits.TheConstants.Limits.{ELEMENTS, PES}
use Rattle.rts_core.specs.declared.event.Event.{Event}
use Rattle.rts_core.specs.declared.event.Event.TheVariants.{Start, Look, Flush, Deliver, Act, Report, Decide, Depart, Resume}
use Rattle.rts_core.specs.Events.{pe_of}
use Rattle.event_lists.specs.declared.form.TheConstants.EventListLimits.{EVENTS}

-- a number after a blank
abbrev pub blank_number : ℕ → List ℕ
blank_number n = 32 ∷ decimal n

-- numbers, each after a blank, and the newline that ends the line
abbrev pub numbers_line : List ℕ → List ℕ
numbers_line [] = 10 ∷ []
numbers_line (n ∷ numbers) = blank_number n ++ numbers_line numbers

-- the line of an event: its name, its PE, and its element
abbrev pub event_line : Event → List ℕ
event_line (Start p e) = codes "Start" ++ numbers_line (p ∷ e ∷ [])
event_line (Look p) = codes "Look" ++ numbers_line (p ∷ [])
event_line (Flush p) = codes "Flush" ++ numbers_line (p ∷ [])
event_line (Deliver p) = codes "Deliver" ++ numbers_line (p ∷ [])
event_line (Act p) = codes "Act" ++ numbers_line (p ∷ [])
event_line (Report p) = codes "Report" ++ numbers_line (p ∷ [])
event_line Decide = codes "Decide" ++ numbers_line []
event_line (Depart p e) = codes "Depart" ++ numbers_line (p ∷ e ∷ [])
event_line (Resume p e) = codes "Resume" ++ numbers_line (p ∷ e ∷ [])

-- the lines of these events
abbrev pub events_text : List Event → List ℕ
events_text events = flat_map event_line events

-- the element that an event names
abbrev pub element_of : Event → Option ℕ
element_of (Start p e) = Some e
element_of (Depart p e) = Some e
element_of (Resume p e) = Some e
element_of event = None

-- an event that names a PE below the first number, if it names one, and an element below the second
abbrev pub IsBelow : ℕ → ℕ → Event → Type 0
IsBelow pes elements event = IfSome (pe_of event) (λ p. p < pes) × IfSome (element_of event) (λ e. e < elements)

-- its PE is one that a run may have, and so is its element
abbrev pub IsWithin : Event → Type 0
IsWithin event = IsBelow PES ELEMENTS event

-- these bytes are the text of these events, which are no more than a list may have
pub record IsText (events : List Event) (bytes : List ℕ) : Type 0 where
  pub spelled : bytes ≡ events_text events
  pub within : All IsWithin events
  pub few : length events ≤ EVENTS
