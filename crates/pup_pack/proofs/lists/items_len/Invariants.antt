use Rattle.std.proofs.Common.{◌≡◌, ◌+◌, ◌<◌, ◌≤◌, All, length, flat_map, take}
use Rattle.chare_index.specs.declared.limits.TheConstants.Limits.{STATE_BYTES}
use Rattle.pup_pack.proofs.lists.items_len.Given as goal

abbrev pub invariant-loop-item : goal.invariant-loop-item
invariant-loop-item g l =
    let n = length (flat_map g.T.Pup.pack (take l.item-index l.items)) in
    record {
      len : n ≤ STATE_BYTES → l.len ≡ n;
      over : STATE_BYTES < n → l.len ≡ STATE_BYTES + 1;
      fits : All g.T.Pup.fits (take l.item-index l.items);
    }
