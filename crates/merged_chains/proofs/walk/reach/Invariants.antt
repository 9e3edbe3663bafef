use Rattle.std.proofs.Common.{◌-◌, ◌+◌, ◌<◌, ◌≤◌, length}
use Rattle.lb_snapshot.specs.Measured.{load}
use Rattle.merged_chains.proofs.walk.reach.Given as goal

abbrev pub invariant-loop-beyond : goal.invariant-loop-beyond
invariant-loop-beyond g l =
    record {
      onward : l.first ≤ l.fits;
      apart : l.fits < l.beyond;
      inside : l.beyond ≤ length l.part + 1;
      light : load l.part l.first l.fits ≤ l.room;
      heavy : l.beyond ≤ length l.part → l.room < load l.part l.first l.beyond;
    }

abbrev pub decreases-loop-beyond : goal.decreases-loop-beyond
decreases-loop-beyond g l = l.beyond - l.fits
