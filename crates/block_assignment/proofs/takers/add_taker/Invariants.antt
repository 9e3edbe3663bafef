use Rattle.std.proofs.Common.{◌≡◌, ◌≢◌, ℕ, ◌+◌, ◌<◌, ◌≤◌, ◌↔◌, length, slice_index}
use Rattle.block_assignment.specs.Least.{may_have, rows}
use Rattle.block_assignment.proofs.takers.add_taker.Given as goal

abbrev pub invariant-loop-p : goal.invariant-loop-p
invariant-loop-p l =
    record {
      done : (p : ℕ) → p < l.p → (may_have (rows l.width (length l.row) l.words) l.b p ≡ 1) ↔ (l.price ≡ slice_index l.row p + slice_index l.discount p);
      to_do : (p : ℕ) → l.p ≤ p → p < length l.row → may_have (rows l.width (length l.row) l.words) l.b p ≡ 0;
      others : (k p : ℕ) → k ≢ l.b → may_have (rows l.width (length l.row) l.words) k p ≡ may_have (rows l.width (length l.row) l.initial.words) k p;
    }
