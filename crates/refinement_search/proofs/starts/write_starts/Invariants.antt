use Rattle.std.proofs.Common.{◌≡◌, ◌+◌, length}
use Rattle.chain_refinement.specs.Walks.{IsWindow}
use Rattle.refinement_search.proofs.LeastStarts.{AreStartsTo}
use Rattle.refinement_search.proofs.starts.write_starts.Given as goal

abbrev pub invariant-loop-end : goal.invariant-loop-end
invariant-loop-end l =
    record {
      window : IsWindow l.loads l.end l.limit l.window.start l.window.weight;
      room : length l.starts ≡ length l.loads + 1;
      starts : AreStartsTo l.loads l.limit l.end l.starts;
    }
