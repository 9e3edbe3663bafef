use Rattle.std.proofs.Common.{◌≤◌, length}
use Rattle.merged_chains.proofs.WalkedParts.{Stands}
use Rattle.merged_chains.proofs.walk.walk_on.Given as goal

abbrev pub invariant-loop-closed : goal.invariant-loop-closed
invariant-loop-closed g l =
    record {
      inside : l.first ≤ length l.part;
      stands : Stands l.part l.pes l.walk l.closed l.first l.filled;
      fits : l.walk.filled ≤ l.walk.limit → l.filled ≤ l.walk.limit;
    }
