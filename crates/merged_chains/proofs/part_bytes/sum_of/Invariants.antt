use Rattle.std.proofs.Common.{◌≡◌, ◌*◌, ◌≤◌, sum, take}
use Rattle.merged_chains.proofs.part_bytes.sum_of.Given as goal

abbrev pub invariant-loop-size : goal.invariant-loop-size
invariant-loop-size l =
    record {
      so_far : l.total ≡ sum (take l.size-index l.bytes);
      small : l.total ≤ 4294967295 * l.size-index;
    }
