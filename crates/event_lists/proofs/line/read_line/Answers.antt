use Rattle.std.proofs.Common.{◌≡◌, ◌++◌, Some, refl, sym, ap, ◌∙◌, inl, inr}
use Rattle.event_lists.specs.Text.{event_line}
use Rattle.event_lists.specs.Lines.{Line, line_at}
use Rattle.event_lists.proofs.Lines.{is_line, malformed, past, spelled_line}
use Rattle.event_lists.proofs.line.read_line.Goals as goal

pub returns-in_default : goal.returns-in_default
returns-in_default c = inl (refl, malformed c.args.bytes.now c.in_default.ensures)

pub event-requires-clause-no_pe : goal.event-requires-clause-no_pe
event-requires-clause-no_pe c =
    let said : Line = record { name = c.in-Some.line.name; pe = c.in-Some.line.pe; element = c.in-Some.line.element; rest = c.in-Some.rest.now } in
    let read : line_at c.args.bytes.now ≡ Some said = c.in-Some.ensures in
    (is_line c.args.bytes.now said read).numbers.no_pe

pub event-requires-clause-no_element : goal.event-requires-clause-no_element
event-requires-clause-no_element c =
    let said : Line = record { name = c.in-Some.line.name; pe = c.in-Some.line.pe; element = c.in-Some.line.element; rest = c.in-Some.rest.now } in
    let read : line_at c.args.bytes.now ≡ Some said = c.in-Some.ensures in
    (is_line c.args.bytes.now said read).numbers.no_element

pub returns-in-Some-event : goal.returns-in-Some-event
returns-in-Some-event c =
    let said : Line = record { name = c.in-Some.line.name; pe = c.in-Some.line.pe; element = c.in-Some.line.element; rest = c.in-Some.rest.now } in
    let read : line_at c.args.bytes.now ≡ Some said = c.in-Some.ensures in
    (spelled_line c.args.bytes.now said read ∙ ap (λ e. event_line e ++ c.in-Some.rest.now) (sym c.in-Some-event.ensures.0), c.in-Some-event.ensures.1)

pub returns-in-None : goal.returns-in-None
returns-in-None c =
    let said : Line = record { name = c.in-Some.line.name; pe = c.in-Some.line.pe; element = c.in-Some.line.element; rest = c.in-Some.rest.now } in
    let read : line_at c.args.bytes.now ≡ Some said = c.in-Some.ensures in
    inr (refl, past c.args.bytes.now said read c.in-None.ensures)
