use Rattle.std.proofs.Common.{◌≡◌, ℕ, ◌+◌, ◌<◌, ◌≤◌, ◌↔◌, slice_index}
use Rattle.block_assignment.specs.Least.{may_have, rows}
use Rattle.block_assignment.specs.Table.{cost_at}
use Rattle.block_assignment.proofs.takers.write_takers.Given as goal

abbrev pub invariant-loop-b : goal.invariant-loop-b
invariant-loop-b l =
    record {
      done : (k p : ℕ) → k < l.b → p < l.table.blocks → (may_have (rows l.width l.table.blocks l.words) k p ≡ 1) ↔
          (slice_index l.price k ≡ cost_at l.table k p + slice_index l.discount p);
      to_do : (k p : ℕ) → l.b ≤ k → p < l.table.blocks → may_have (rows l.width l.table.blocks l.words) k p ≡ 0;
    }
