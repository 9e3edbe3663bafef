use Rattle.std.proofs.Common.{◌≡◌, ◌<◌, ◌≤◌, ◌+◌, ℕ, List, Option, Some, length, set, slice_index, arith, sym, ◌∙◌, subst, ap}
use Rattle.std.proofs.lemmas.List.{get_or_read}
use Rattle.block_assignment.specs.Search.{State, IsSized, IsMatched, IsPath}
use Rattle.block_assignment.proofs.Augmenting.{IsAugmenting, augmenting_starts, next_earlier, augmenting_next, augmented_sized, augmenting_ends, renamed}
use Rattle.block_assignment.proofs.search.Search.augment.Goals as goal

pub index-requires-in-loop-b : goal.index-requires-in-loop-b
index-requires-in-loop-b g c =
    let s : State = c.args.self.now in
    let names : List ℕ = c.loop-b.self-inside.names.items in
    let holders : List (Option ℕ) = c.loop-b.self-inside.holders.items in
    let r = c.loop-b.invariant.rest in
    let augmenting : IsAugmenting s names holders c.loop-b.pe = c.loop-b.invariant.augmenting in
    let named : c.loop-b.b < s.named = omega (arith, ap (λ (z : State). z.named) r, c.loop-b-test.true) in
    let before : c.index-before.result.now ≡ slice_index names c.loop-b.b = get_or_read names c.loop-b.b c.index-before.result.now
    (omega (arith, augmenting.names_length, named, c.requires.unnamed)) c.index-before.ensures 0 in
    let counted : length c.loop-b.self-inside.from.items ≡ s.table.blocks = ap (λ (z : State). length z.from) (sym r) ∙ c.requires.sized.from_length in
    omega (arith, counted, before, augmenting.below c.loop-b.b named)

pub loop-b-smaller : goal.loop-b-smaller
loop-b-smaller g c =
    let s : State = c.args.self.now in
    let names : List ℕ = c.loop-b.self-inside.names.items in
    let holders : List (Option ℕ) = c.loop-b.self-inside.holders.items in
    let r = c.loop-b.invariant.rest in
    let augmenting : IsAugmenting s names holders c.loop-b.pe = c.loop-b.invariant.augmenting in
    let path : IsPath s = c.requires.path in
    let named : c.loop-b.b < s.named = omega (arith, ap (λ (z : State). z.named) r, c.loop-b-test.true) in
    let before : c.index-before.result.now ≡ slice_index names c.loop-b.b = get_or_read names c.loop-b.b c.index-before.result.now
    (omega (arith, augmenting.names_length, named, c.requires.unnamed)) c.index-before.ensures 0 in
    let less = next_earlier s names holders c.loop-b.pe c.loop-b.b path augmenting c.loop-b.invariant.reaches named in
    subst (λ q. slice_index s.rank q < slice_index s.rank c.loop-b.pe) (sym before) less.1

pub loop-b-preserved : goal.loop-b-preserved
loop-b-preserved g c =
    let s : State = c.args.self.now in
    let names : List ℕ = c.loop-b.self-inside.names.items in
    let holders : List (Option ℕ) = c.loop-b.self-inside.holders.items in
    let r = c.loop-b.invariant.rest in
    let augmenting : IsAugmenting s names holders c.loop-b.pe = c.loop-b.invariant.augmenting in
    let path : IsPath s = c.requires.path in
    let named : c.loop-b.b < s.named = omega (arith, ap (λ (z : State). z.named) r, c.loop-b-test.true) in
    let before : c.index-before.result.now ≡ slice_index names c.loop-b.b = get_or_read names c.loop-b.b c.index-before.result.now
    (omega (arith, augmenting.names_length, named, c.requires.unnamed)) c.index-before.ensures 0 in
    let moved : IsAugmenting s (set names c.loop-b.b c.loop-b.pe) (set holders c.loop-b.pe (Some c.loop-b.b))
    c.index-before.result.now = augmenting_next s names holders c.loop-b.pe c.loop-b.b c.index-before.result.now
    (omega (arith, c.requires.unnamed)) path augmenting c.loop-b.invariant.reaches named before in
    let counted : length c.loop-b.self-inside.from.items ≡ s.table.blocks = ap (λ (z : State). length z.from) (sym r) ∙ c.requires.sized.from_length in
    let reaches : c.index-in-loop-b.result.now ≡ slice_index s.from c.index-before.result.now = get_or_read c.loop-b.self-inside.from.items
    c.index-before.result.now c.index-in-loop-b.result.now (omega (arith, counted, moved.inside)) c.index-in-loop-b.ensures 0
    ∙ ap (λ (z : State). slice_index z.from c.index-before.result.now) (sym r) in
    record { rest = r; augmenting = moved; reaches = reaches }

pub returns-clause-matched : goal.returns-clause-matched
returns-clause-matched g c =
    let s : State = c.args.self.now in
    let names : List ℕ = c.loop-b.self-inside.names.items in
    let holders : List (Option ℕ) = c.loop-b.self-inside.holders.items in
    let r = c.loop-b.invariant.rest in
    let augmenting : IsAugmenting s names holders c.loop-b.pe = c.loop-b.invariant.augmenting in
    let path : IsPath s = c.requires.path in
    let past : s.named ≤ c.loop-b.b = omega (arith, ap (λ (z : State). z.named) r, c.loop-b-test.false) in
    subst (λ (z : State). IsMatched (renamed z (z.named + 1) (set names z.named c.loop-b.pe) (set holders c.loop-b.pe (Some z.named)))) r
    (augmenting_ends s names holders c.loop-b.pe c.loop-b.b c.requires.unnamed c.requires.matched path augmenting c.loop-b.invariant.reaches past)

pub returns-clause-sized : goal.returns-clause-sized
returns-clause-sized g c =
    subst (λ (z : State). IsSized (renamed z (z.named + 1) (set c.loop-b.self-inside.names.items z.named c.loop-b.pe)
    (set c.loop-b.self-inside.holders.items c.loop-b.pe (Some z.named)))) c.loop-b.invariant.rest
    (augmented_sized c.args.self.now (c.args.self.now.named + 1) c.args.self.now.named c.loop-b.self-inside.names.items
    c.loop-b.self-inside.holders.items c.loop-b.pe c.requires.sized c.loop-b.invariant.augmenting)

pub returns-clause-table : goal.returns-clause-table
returns-clause-table g c = ap (λ (z : State). z.table) (sym c.loop-b.invariant.rest)

pub returns-clause-named : goal.returns-clause-named
returns-clause-named g c = ap (λ (z : State). z.named + 1) (sym c.loop-b.invariant.rest)

pub returns-clause-price : goal.returns-clause-price
returns-clause-price g c = ap (λ (z : State). z.price) (sym c.loop-b.invariant.rest)

pub returns-clause-discount : goal.returns-clause-discount
returns-clause-discount g c = ap (λ (z : State). z.discount) (sym c.loop-b.invariant.rest)

pub index-before-requires : goal.index-before-requires
index-before-requires g c =
    omega (arith, c.loop-b.invariant.augmenting.names_length, ap (λ (z : State). z.named) c.loop-b.invariant.rest, c.loop-b-test.true, c.requires.unnamed)

pub index_mut-requires : goal.index_mut-requires
index_mut-requires g c =
    omega (arith, c.loop-b.invariant.augmenting.names_length, ap (λ (z : State). z.named) c.loop-b.invariant.rest, c.loop-b-test.true, c.requires.unnamed)

pub index_mut-requires-in-loop-b : goal.index_mut-requires-in-loop-b
index_mut-requires-in-loop-b g c =
    omega (arith, c.loop-b.invariant.augmenting.holders_length, c.loop-b.invariant.augmenting.inside)

pub index_mut-requires-2 : goal.index_mut-requires-2
index_mut-requires-2 g c =
    omega (arith, c.loop-b.invariant.augmenting.names_length, ap (λ (z : State). z.named) c.loop-b.invariant.rest, c.requires.unnamed)

pub index_mut-requires-3 : goal.index_mut-requires-3
index_mut-requires-3 g c =
    omega (arith, c.loop-b.invariant.augmenting.holders_length, c.loop-b.invariant.augmenting.inside)

pub loop-b-init : goal.loop-b-init
loop-b-init g c =
    let s : State = record {
      table = c.self.inside.table.now;
      named = c.self.inside.named;
      names = c.self.inside.names.items;
      holders = c.self.inside.holders.items;
      price = c.self.inside.price.items;
      discount = c.self.inside.discount.items;
      rank = c.self.inside.rank.items;
      distance = c.self.inside.distance.items;
      from = c.self.inside.from.items;
    } in
    let v : c.args.self.now ≡ s = sym c.self.view_is in
    let counted : length c.self.inside.from.items ≡ c.args.self.now.table.blocks = ap (λ (z : State). length z.from) (sym v) ∙ c.requires.sized.from_length in
    record {
      rest = v ∙ ap (λ (z : State). record {
        table = s.table;
        named = s.named;
        names = z.names;
        holders = z.holders;
        price = s.price;
        discount = s.discount;
        rank = s.rank;
        distance = s.distance;
        from = s.from;
      }) (sym v);
      augmenting = subst (λ (z : State). IsAugmenting c.args.self.now z.names z.holders c.args.free) v
          (augmenting_starts c.args.self.now c.args.free c.requires.sized c.requires.matched c.requires.inside c.requires.free c.requires.scanned);
      reaches = get_or_read c.self.inside.from.items c.args.free c.index.result.now (omega (arith, counted, c.requires.inside))
          c.index.ensures 0 ∙ ap (λ (z : State). slice_index z.from c.args.free) (sym v);
    }
