use Rattle.std.proofs.Common.{◌≡◌, map}
use Rattle.std.specs.List.{range_with_len}
use Rattle.workload_run.specs.Tallies.{tally_of}
use Rattle.workload_run.proofs.tallies.tallies_of.Given as goal

abbrev pub invariant-loop-i : goal.invariant-loop-i
invariant-loop-i g l = l.tallies.items ≡ map (tally_of l.workload) (range_with_len 0 l.i)
