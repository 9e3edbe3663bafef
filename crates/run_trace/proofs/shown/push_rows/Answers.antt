use Rattle.run_trace.proofs.Adding.{rows_more}
use Rattle.run_trace.proofs.shown.push_rows.Goals as goal

pub loop-pe-preserved : goal.loop-pe-preserved
loop-pe-preserved g c = rw (c.in_ok-push.ensures.items, c.loop-pe.invariant) (rows_more c.args.events.now.items c.loop-pe.pe)
