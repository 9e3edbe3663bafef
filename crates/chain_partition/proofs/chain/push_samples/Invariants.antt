use Rattle.std.proofs.Common.{◌+◌, ◌-◌, ◌/◌, ◌≤◌, length, vec_len, vec_capacity}
use Rattle.chain_partition.proofs.RunningSums.{SamplesSince}
use Rattle.chain_partition.proofs.chain.push_samples.Given as goal

abbrev pub invariant-loop-group : goal.invariant-loop-group
invariant-loop-group g l =
    record {
      samples : SamplesSince l.fn.list.items l.loads l.group l.before l.list.items;
      room : vec_len l.list + (length l.loads / 16 - l.group) ≤ vec_capacity l.list;
    }
