use Rattle.std.proofs.Common.{◌≡◌, ◌-◌, ◌≤◌, length}
use Rattle.pup_pack.specs.Lists.{unpack_items}
use Rattle.pup_pack.proofs.Resumed.{resumed}
use Rattle.pup_pack.proofs.lists.unpack_items.Given as goal

abbrev pub invariant-loop : goal.invariant-loop
invariant-loop g l =
    record {
      within : l.end ≤ length l.bytes;
      left : l.counter ≤ l.count;
      found : length l.items ≡ l.counter;
      read : resumed g.T.Pup.unpack l.bytes l.items l.end (l.count - l.counter) ≡ unpack_items g.T.Pup.unpack l.count l.bytes;
    }
