use Rattle.std.proofs.Common.{◌≡◌, ◌+◌, ◌-◌, ◌*◌, take}
use Rattle.dump_writing.specs.Joined.{joined}
use Rattle.dump_writing.proofs.putting.fill.Given as goal

abbrev pub invariant-loop-i : goal.invariant-loop-i
invariant-loop-i g l = record {
  at_item : l.at ≡ g.row.N * (l.i - l.first);
  filled : take l.at l.block ≡ joined (λ k. g.L.Items.item l.list (l.first + k)) (l.i - l.first);
}
