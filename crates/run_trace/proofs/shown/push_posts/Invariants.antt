use Rattle.std.proofs.Common.{◌≡◌, ◌++◌, ◌-◌, ◌≤◌}
use Rattle.run_trace.specs.Shown.{post_events}
use Rattle.run_trace.proofs.shown.push_posts.Given as goal

abbrev pub invariant-loop-number : goal.invariant-loop-number
invariant-loop-number g l =
    (l.events.items ≡ l.initial.events.items ++ post_events l.at l.pe l.first l.number) × (l.number - l.first ≤ l.end - l.first)
