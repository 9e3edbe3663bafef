use Rattle.std.proofs.Common.{◌≡◌, All, ◌+◌, ◌-◌, ◌≤◌, length, vec_len, vec_capacity}
use Rattle.merged_chains.proofs.WalkedParts.{StandsAt}
use Rattle.merged_chains.proofs.walk.ends_on.Given as goal

abbrev pub invariant-loop-closed : goal.invariant-loop-closed
invariant-loop-closed g l =
    record {
      inside : l.begin ≤ length l.part;
      stands : StandsAt l.part l.pes l.walk l.fn.first l.ends.items l.closed l.begin l.filled;
      counted : vec_len l.ends ≡ l.closed - l.walk.closed;
      fits : l.walk.filled ≤ l.walk.limit → l.filled ≤ l.walk.limit;
      inside_part : All (λ end. (l.fn.first ≤ end) × (end ≤ l.fn.first + length l.part)) l.ends.items;
      room : vec_len l.ends + (l.pes - l.closed) ≤ vec_capacity l.ends;
    }
