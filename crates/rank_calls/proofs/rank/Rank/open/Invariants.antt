use Rattle.std.proofs.Common.{◌≡◌}
use Rattle.rank_calls.specs.Runs.{opened_to}
use Rattle.rank_calls.proofs.rank.Rank.open.Given as goal

abbrev pub invariant-loop-place : goal.invariant-loop-place
invariant-loop-place g l = record { rank : l.rank ≡ opened_to l.fn.pes l.fn.n l.fn.me l.place }
