use Rattle.std.proofs.Common.{◌≡◌, ◌+◌, length}
use Rattle.chain_refinement.specs.Walks.{IsLeastStart}
use Rattle.merged_refinement.proofs.LeastStarts.{AreStartsTo}
use Rattle.merged_refinement.proofs.starts.write_starts.Given as goal

abbrev pub invariant-loop-end : goal.invariant-loop-end
invariant-loop-end g l =
    record {
      here : IsLeastStart l.loads l.end l.limit l.start;
      room : length l.starts ≡ length l.loads + 1;
      starts : AreStartsTo l.loads l.limit l.end l.starts;
    }
