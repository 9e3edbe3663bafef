use Rattle.std.proofs.Common.{◌≡◌, ◌++◌, map, drop}
use Rattle.checkpointed_runs.specs.Pausing.{round_of}
use Rattle.checkpointed_runs.proofs.checkpoints.all_decided.Given as goal

abbrev pub invariant-loop-kept : goal.invariant-loop-kept
invariant-loop-kept g l = l.all.items ++ map round_of (drop l.kept-index l.rounds) ≡ l.before ++ map round_of l.rounds
