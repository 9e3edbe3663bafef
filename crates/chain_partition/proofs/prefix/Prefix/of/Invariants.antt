use Rattle.std.proofs.Common.{◌≡◌, ◌+◌, ◌/◌, take, vec_capacity}
use Rattle.chain_partition.proofs.prefix.Prefix.of.Given as goal

abbrev pub invariant-loop-units : goal.invariant-loop-units
invariant-loop-units g l =
    record {
      copied : l.list.items ≡ take l.units-index l.loads-2;
      room : vec_capacity l.list ≡ l.count + (l.count / 16 + 1);
    }
