use Rattle.std.proofs.Common.{ℕ, ◌<◌, ◌≤◌, slice_index}
use Rattle.block_assignment.specs.declared.limits.TheConstants.MatrixLimits.{BYTES}
use Rattle.block_assignment.proofs.costs.Costs.greatest.Given as goal

abbrev pub invariant-loop-i : goal.invariant-loop-i
invariant-loop-i l =
    record {
      low : (k : ℕ) → k < l.i → slice_index l.self.costs k ≤ l.greatest;
      small : l.greatest ≤ BYTES;
    }
