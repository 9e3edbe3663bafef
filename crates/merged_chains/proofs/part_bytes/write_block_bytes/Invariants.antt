use Rattle.std.proofs.Common.{◌≡◌, ℕ, ◌+◌, ◌-◌, ◌<◌, length, slice_index}
use Rattle.lb_snapshot.specs.Measured.{load}
use Rattle.merged_chains.proofs.part_bytes.write_block_bytes.Given as goal

abbrev pub invariant-loop-b : goal.invariant-loop-b
invariant-loop-b l =
    record {
      same_room : length l.held ≡ length l.fn.held;
      so_far : (k : ℕ) → k < l.b → slice_index l.held k ≡ load l.bytes (slice_index l.cuts k - l.first) (slice_index l.cuts (k + 1) + 0 - l.first);
    }
