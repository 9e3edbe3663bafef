use Rattle.std.proofs.Common.{◌≡◌, ℕ, ◌+◌, ◌-◌, ◌<◌, length, slice_index}
use Rattle.lb_snapshot.specs.Measured.{load}
use Rattle.merged_chains.proofs.range_loads.write_loads.Given as goal

abbrev pub invariant-loop-b : goal.invariant-loop-b
invariant-loop-b g l =
    record {
      begins : l.begin ≡ slice_index l.places l.b;
      same_room : length l.loads ≡ length l.fn.loads;
      weigh : (k : ℕ) → k < l.b → slice_index l.loads k ≡ load l.part (slice_index l.places k - l.first) (slice_index l.places (k + 1) + l.behind - l.first);
    }
