use Rattle.std.proofs.Common.{◌≡◌, ◌+◌, ◌≤◌, slice_index}
use Rattle.chain_refinement.specs.Refinement.{held_before, held_from}
use Rattle.refinement_search.specs.Rows.{IsWrittenFrom, sum_at}
use Rattle.refinement_search.proofs.row.write_row.Given as goal

abbrev pub invariant-loop-x : goal.invariant-loop-x
invariant-loop-x l =
    record {
      from : l.span.near ≤ l.x;
      to : l.x ≤ l.span.far;
      cost_is : l.cost ≡ held_from l.sizes l.sides.from l.x + held_before l.sizes l.sides.to l.x;
      least_is : l.least ≡ slice_index l.row l.x;
      written : IsWrittenFrom l.span.far (sum_at l.sizes l.starts l.fn.row l.span.below l.sides.from l.sides.to) l.fn.row l.row l.x;
    }

abbrev pub decreases-loop-x : goal.decreases-loop-x
decreases-loop-x l = l.x
