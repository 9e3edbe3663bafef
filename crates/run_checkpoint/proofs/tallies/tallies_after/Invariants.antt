use Rattle.std.proofs.Common.{◌≡◌, map}
use Rattle.std.specs.List.{range_with_len}
use Rattle.run_checkpoint.specs.Tallies.{tally_after}
use Rattle.run_checkpoint.proofs.tallies.tallies_after.Given as goal

abbrev pub invariant-loop-i : goal.invariant-loop-i
invariant-loop-i g l = l.tallies.items ≡ map (tally_after l.workload l.rounds) (range_with_len 0 l.i)
