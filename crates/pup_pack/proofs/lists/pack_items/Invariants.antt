use Rattle.std.proofs.Common.{◌≡◌, ◌++◌, ◌≤◌, All, flat_map, take, vec_capacity}
use Rattle.pup_pack.proofs.lists.pack_items.Given as goal

abbrev pub invariant-loop-item : goal.invariant-loop-item
invariant-loop-item g l =
    record {
      appended : l.out.items ≡ l.initial.out.items ++ flat_map g.T.Pup.pack (take l.item-index l.items);
      counted : All g.T.Pup.counted (take l.item-index l.items);
      capacity : vec_capacity l.initial.out ≤ vec_capacity l.out;
    }
