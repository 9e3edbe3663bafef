use Rattle.chain_refinement.specs.Runs.{AreRuns}
use Rattle.chain_refinement.proofs.runs.runs_of.Given as goal

abbrev pub invariant-loop-i : goal.invariant-loop-i
invariant-loop-i g l = AreRuns l.pairs l.pes l.i l.names.items l.starts.items
