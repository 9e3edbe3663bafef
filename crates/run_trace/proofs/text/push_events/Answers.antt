use Rattle.std.specs.String.{string_bytes}
use Rattle.run_trace.specs.Lines.{none}
use Rattle.run_trace.proofs.Adding.{lines_more}
use Rattle.run_trace.proofs.text.push_events.Goals as goal

pub loop-event-init : goal.loop-event-init
loop-event-init c = none

pub loop-event-preserved : goal.loop-event-preserved
loop-event-preserved c =
    lines_more c.args.events.now c.loop-event.event-index _ (string_bytes c.args.text.now) (string_bytes c.loop-event.text) (string_bytes c.push_event.new.text)
    c.loop-event-test.true c.loop-event.invariant c.in_ok-push_event.ensures.line
