use Rattle.std.proofs.Common.{◌≡◌, ◌≤◌, ◌++◌, length}
use Rattle.std.specs.Prelude.{All}
use Rattle.event_lists.specs.declared.form.TheConstants.EventListLimits.{EVENTS}
use Rattle.event_lists.specs.Text.{events_text, IsWithin}
use Rattle.event_lists.proofs.reader.read_onto.Given as goal

abbrev pub invariant-loop-rest : goal.invariant-loop-rest
invariant-loop-rest g l =
    (l.bytes ≡ events_text l.events.items ++ l.rest) × All IsWithin l.events.items × (length l.events.items ≤ EVENTS)

abbrev pub decreases-loop-rest : goal.decreases-loop-rest
decreases-loop-rest g l = length l.rest
