use Rattle.std.proofs.Common.{◌≡◌, drop}
use Rattle.run_trace.specs.Steps.{posts_from, posts_in}
use Rattle.run_trace.proofs.steps.posts_in.Given as goal

abbrev pub invariant-loop-entry : goal.invariant-loop-entry
invariant-loop-entry l = posts_from l.first l.end (drop l.entry-index l.entries) ≡ posts_in l.entries
