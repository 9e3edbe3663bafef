use Rattle.std.proofs.Common.{◌≡◌, length, take, vec_len, vec_capacity}
use Rattle.merged_chains.specs.Merged.{unmerged}
use Rattle.merged_chains.proofs.unmerging.starts_of.Given as goal

abbrev pub invariant-loop-run : goal.invariant-loop-run
invariant-loop-run g l =
    record {
      so_far : l.list.items ≡ unmerged l.starts (take l.run-index l.runs);
      filled : vec_len l.list ≡ l.run-index;
      room : vec_capacity l.list ≡ length l.runs;
    }
