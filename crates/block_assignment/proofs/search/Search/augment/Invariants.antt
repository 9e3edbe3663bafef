use Rattle.std.proofs.Common.{◌≡◌, slice_index}
use Rattle.block_assignment.proofs.Augmenting.{IsAugmenting}
use Rattle.block_assignment.proofs.search.Search.augment.Given as goal

abbrev pub invariant-loop-b : goal.invariant-loop-b
invariant-loop-b g l =
    record {
      rest : l.fn.self ≡ record {
        table = l.self-inside.table.now;
        named = l.self-inside.named;
        names = l.fn.self.names;
        holders = l.fn.self.holders;
        price = l.self-inside.price.items;
        discount = l.self-inside.discount.items;
        rank = l.self-inside.rank.items;
        distance = l.self-inside.distance.items;
        from = l.self-inside.from.items;
      };
      augmenting : IsAugmenting l.fn.self l.self-inside.names.items l.self-inside.holders.items l.pe;
      reaches : l.b ≡ slice_index l.fn.self.from l.pe;
    }

abbrev pub decreases-loop-b : goal.decreases-loop-b
decreases-loop-b g l = slice_index l.fn.self.rank l.pe
