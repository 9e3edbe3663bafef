use Rattle.std.proofs.Common.{◌≡◌, length}
use Rattle.run_trace.proofs.Sums.{AreAdded}
use Rattle.run_trace.proofs.loads.loads_of.Given as goal

abbrev pub invariant-loop-i : goal.invariant-loop-i
invariant-loop-i g l = (length l.sums.items ≡ l.snapshot.procs) × AreAdded l.loads l.sizes l.i l.sums.items
