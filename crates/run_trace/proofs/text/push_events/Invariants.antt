use Rattle.std.proofs.Common.{take}
use Rattle.std.specs.String.{string_bytes}
use Rattle.run_trace.specs.Lines.{AddsLines}
use Rattle.run_trace.proofs.text.push_events.Given as goal

abbrev pub invariant-loop-event : goal.invariant-loop-event
invariant-loop-event l = AddsLines (string_bytes l.initial.text) (take l.event-index l.events) (string_bytes l.text)
