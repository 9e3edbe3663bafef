use Rattle.std.proofs.Common.{◌<◌, ◌≤◌, IfSome, length}
use Rattle.block_assignment.proofs.Scans.{Walked, Nearest, behind}
use Rattle.block_assignment.proofs.scan.scan.Given as goal

-- `behind` is the PE behind the last entry that the walk has not come to
abbrev pub invariant-loop-place : goal.invariant-loop-place
invariant-loop-place l =
    record {
      few : l.place ≤ length l.to_scan;
      walked : Walked l.joining.distance l.joining.price l.joining.block l.row l.discount l.rank l.initial.distance l.initial.from
          l.distance l.from (length l.row) (behind l.to_scan l.place);
      nearest : Nearest l.rank l.to_scan l.distance l.nearest l.least (length l.row) (behind l.to_scan l.place);
      found : IfSome l.nearest (λ found. found < length l.to_scan);
    }

abbrev pub decreases-loop-place : goal.decreases-loop-place
decreases-loop-place l = l.place
