use Rattle.std.specs.String.{string_bytes}
use Rattle.event_lists.proofs.Texts.{written_more}
use Rattle.event_lists.proofs.writer.push_events.Goals as goal

pub loop-event-preserved : goal.loop-event-preserved
loop-event-preserved g c =
    written_more c.args.events.now c.loop-event.event-index c.event-item.result (string_bytes c.args.text.now) (string_bytes c.loop-event.text) (string_bytes c.push_event.new.text)
    c.event-item.is c.loop-event-test.true c.in_ok-push_event.ensures.within c.loop-event.invariant.0 c.in_ok-push_event.ensures.line c.loop-event.invariant.1
