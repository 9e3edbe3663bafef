use Rattle.std.proofs.Common.{length}
use Rattle.run_trace.proofs.recorder.Recorder.into_timeline.Given as goal

abbrev pub decreases-loop-row : goal.decreases-loop-row
decreases-loop-row g l = length l.rows.items
