use Rattle.std.proofs.Common.{◌≤◌, ◌-◌}
use Rattle.std.specs.Io.KnownBytes.{Appends}
use Rattle.dump_writing.specs.Joined.{joined}
use Rattle.dump_writing.proofs.putting.put_items.Given as goal

abbrev pub invariant-loop-first : goal.invariant-loop-first
invariant-loop-first g l = record {
  inside : l.first ≤ g.L.Items.count l.list;
  gone : Appends (g.W.Write.contents l.fn.writer) (g.W.Write.contents l.writer) (joined (g.L.Items.item l.list) l.first);
}

abbrev pub decreases-loop-first : goal.decreases-loop-first
decreases-loop-first g l = g.L.Items.count l.list - l.first
