use Rattle.std.proofs.Common.{◌≡◌, ◌++◌, take}
use Rattle.std.specs.Prelude.{All}
use Rattle.std.specs.String.{string_bytes}
use Rattle.event_lists.specs.Text.{events_text, IsWithin}
use Rattle.event_lists.proofs.writer.push_events.Given as goal

abbrev pub invariant-loop-event : goal.invariant-loop-event
invariant-loop-event g l =
    (string_bytes l.text ≡ string_bytes l.initial.text ++ events_text (take l.event-index l.events)) × All IsWithin (take l.event-index l.events)
