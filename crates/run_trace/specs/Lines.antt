-- The text of a trace: a line for each event.
use Rattle.std.specs.Prelude.{◌≡◌, ℕ, List, [], ◌∷◌, ◌++◌, Some}
use Rattle.serde_json.specs.Read.{read}
use Rattle.run_trace.specs.declared.event.TraceEvent.{TraceEvent}
use Rattle.run_trace.specs.Events.{event_data}

-- the second text is the first with one more line after a comma, which reads as this event
pub record AddsLine (old : List ℕ) (event : TraceEvent) (new : List ℕ) : Type 0 where
  pub line : List ℕ
  pub added : new ≡ old ++ (44 ∷ 10 ∷ line)
  pub reads : read line ≡ Some (event_data event)

-- the second text is the first with one more line for each of these events, in order
pub data AddsLines (old : List ℕ) : List TraceEvent → List ℕ → Type 0 where
  none : AddsLines old [] old
  more : {events : List TraceEvent} {event : TraceEvent} {new newer : List ℕ} →
      AddsLines old events new → AddsLine new event newer → AddsLines old (events ++ event ∷ []) newer

-- the text is this start, a line for each of these events, and this end
pub record IsTrace (start end : List ℕ) (events : List TraceEvent) (text : List ℕ) : Type 0 where
  pub lines : List ℕ
  pub added : AddsLines start events lines
  pub ended : text ≡ lines ++ end
