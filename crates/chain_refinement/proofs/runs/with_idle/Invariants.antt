use Rattle.std.proofs.Common.{length}
use Rattle.chain_refinement.proofs.Idle.{AreListed}
use Rattle.chain_refinement.proofs.runs.with_idle.Given as goal

abbrev pub invariant-loop-pe : goal.invariant-loop-pe
invariant-loop-pe g l =
    AreListed l.pairs l.pes (length l.pairs) (length l.fn.runs.names.items) l.pe l.names.items l.starts.items
