use Rattle.std.proofs.Common.{◌≡◌, ℕ, ◌<◌, ◌++◌, List, Option, MatchOption, length, take, drop, set, slice_index, arith, ap, sym, ◌∙◌, subst}
use Rattle.std.proofs.lemmas.List.{get_or_read, length-set}
use Rattle.block_assignment.specs.Search.{State, IsNearest, IsUnscanned, unscanned}
use Rattle.block_assignment.proofs.Joinings.{IsRow, row_low, row_small, relaxed_by_row, IsReady, ready, ready_near}
use Rattle.block_assignment.proofs.Trees.{written, grown_sized, grown_matched, one_scanned, grown_tree, Relaxed, Kept}
use Rattle.block_assignment.proofs.search.Search.grow.Goals as goal

pub index_mut-requires : goal.index_mut-requires
index_mut-requires g c =
    let s : State = record {
      table = c.self.inside.table.now;
      named = c.self.inside.named;
      names = c.self.inside.names.items;
      holders = c.self.inside.holders.items;
      price = c.self.inside.price.items;
      discount = c.self.inside.discount.items;
      rank = c.self.inside.rank.items;
      distance = c.self.inside.distance.items;
      from = c.self.inside.from.items;
    } in
    let r : IsReady c.args.rank s c.args.block c.args.pe = ready c.args.rank s c.args.self.now c.args.block c.args.pe c.self.view_is
    c.requires.sized c.requires.matched c.requires.tree c.requires.unnamed c.requires.nearest c.requires.held in
    omega (arith, r.pe_in_rank)

pub index-requires : goal.index-requires
index-requires g c =
    let s : State = record {
      table = c.self.inside.table.now;
      named = c.self.inside.named;
      names = c.self.inside.names.items;
      holders = c.self.inside.holders.items;
      price = c.self.inside.price.items;
      discount = c.self.inside.discount.items;
      rank = c.self.inside.rank.items;
      distance = c.self.inside.distance.items;
      from = c.self.inside.from.items;
    } in
    let r : IsReady c.args.rank s c.args.block c.args.pe = ready c.args.rank s c.args.self.now c.args.block c.args.pe c.self.view_is
    c.requires.sized c.requires.matched c.requires.tree c.requires.unnamed c.requires.nearest c.requires.held in
    omega (arith, r.block_in_price)

pub index-requires-2 : goal.index-requires-2
index-requires-2 g c =
    let s : State = record {
      table = c.self.inside.table.now;
      named = c.self.inside.named;
      names = c.self.inside.names.items;
      holders = c.self.inside.holders.items;
      price = c.self.inside.price.items;
      discount = c.self.inside.discount.items;
      rank = c.self.inside.rank.items;
      distance = c.self.inside.distance.items;
      from = c.self.inside.from.items;
    } in
    let r : IsReady c.args.rank s c.args.block c.args.pe = ready c.args.rank s c.args.self.now c.args.block c.args.pe c.self.view_is
    c.requires.sized c.requires.matched c.requires.tree c.requires.unnamed c.requires.nearest c.requires.held in
    omega (arith, r.pe_in_distance)

pub row-requires : goal.row-requires
row-requires g c =
    let s : State = record {
      table = c.self.inside.table.now;
      named = c.self.inside.named;
      names = c.self.inside.names.items;
      holders = c.self.inside.holders.items;
      price = c.self.inside.price.items;
      discount = c.self.inside.discount.items;
      rank = c.self.inside.rank.items;
      distance = c.self.inside.distance.items;
      from = c.self.inside.from.items;
    } in
    let r : IsReady c.args.rank s c.args.block c.args.pe = ready c.args.rank s c.args.self.now c.args.block c.args.pe c.self.view_is
    c.requires.sized c.requires.matched c.requires.tree c.requires.unnamed c.requires.nearest c.requires.held in
    r.block

pub scan-requires-clause-discounts : goal.scan-requires-clause-discounts
scan-requires-clause-discounts g c =
    let s : State = record {
      table = c.self.inside.table.now;
      named = c.self.inside.named;
      names = c.self.inside.names.items;
      holders = c.self.inside.holders.items;
      price = c.self.inside.price.items;
      discount = c.self.inside.discount.items;
      rank = c.self.inside.rank.items;
      distance = c.self.inside.distance.items;
      from = c.self.inside.from.items;
    } in
    let r : IsReady c.args.rank s c.args.block c.args.pe = ready c.args.rank s c.args.self.now c.args.block c.args.pe c.self.view_is
    c.requires.sized c.requires.matched c.requires.tree c.requires.unnamed c.requires.nearest c.requires.held in
    ap (λ (xs : List ℕ). length xs) c.deref.ensures.value ∙ r.sized.discount_length ∙ sym c.row.ensures.counted

pub scan-requires-clause-ranks : goal.scan-requires-clause-ranks
scan-requires-clause-ranks g c =
    let s : State = record {
      table = c.self.inside.table.now;
      named = c.self.inside.named;
      names = c.self.inside.names.items;
      holders = c.self.inside.holders.items;
      price = c.self.inside.price.items;
      discount = c.self.inside.discount.items;
      rank = c.self.inside.rank.items;
      distance = c.self.inside.distance.items;
      from = c.self.inside.from.items;
    } in
    let r : IsReady c.args.rank s c.args.block c.args.pe = ready c.args.rank s c.args.self.now c.args.block c.args.pe c.self.view_is
    c.requires.sized c.requires.matched c.requires.tree c.requires.unnamed c.requires.nearest c.requires.held in
    ap (λ (xs : List ℕ). length xs) c.deref-2.ensures.value ∙ length-set s.rank c.args.pe c.args.rank ∙ r.sized.rank_length ∙ sym c.row.ensures.counted

pub scan-requires-clause-held : goal.scan-requires-clause-held
scan-requires-clause-held g c =
    let s : State = record {
      table = c.self.inside.table.now;
      named = c.self.inside.named;
      names = c.self.inside.names.items;
      holders = c.self.inside.holders.items;
      price = c.self.inside.price.items;
      discount = c.self.inside.discount.items;
      rank = c.self.inside.rank.items;
      distance = c.self.inside.distance.items;
      from = c.self.inside.from.items;
    } in
    let r : IsReady c.args.rank s c.args.block c.args.pe = ready c.args.rank s c.args.self.now c.args.block c.args.pe c.self.view_is
    c.requires.sized c.requires.matched c.requires.tree c.requires.unnamed c.requires.nearest c.requires.held in
    ap (λ (xs : List (Option ℕ)). length xs) c.deref-3.ensures.value ∙ r.sized.holders_length ∙ sym c.row.ensures.counted

pub scan-requires-clause-distances : goal.scan-requires-clause-distances
scan-requires-clause-distances g c =
    let s : State = record {
      table = c.self.inside.table.now;
      named = c.self.inside.named;
      names = c.self.inside.names.items;
      holders = c.self.inside.holders.items;
      price = c.self.inside.price.items;
      discount = c.self.inside.discount.items;
      rank = c.self.inside.rank.items;
      distance = c.self.inside.distance.items;
      from = c.self.inside.from.items;
    } in
    let r : IsReady c.args.rank s c.args.block c.args.pe = ready c.args.rank s c.args.self.now c.args.block c.args.pe c.self.view_is
    c.requires.sized c.requires.matched c.requires.tree c.requires.unnamed c.requires.nearest c.requires.held in
    ap (λ (xs : List ℕ). length xs) c.deref_mut.ensures.value ∙ r.sized.distance_length ∙ sym c.row.ensures.counted

pub scan-requires-clause-froms : goal.scan-requires-clause-froms
scan-requires-clause-froms g c =
    let s : State = record {
      table = c.self.inside.table.now;
      named = c.self.inside.named;
      names = c.self.inside.names.items;
      holders = c.self.inside.holders.items;
      price = c.self.inside.price.items;
      discount = c.self.inside.discount.items;
      rank = c.self.inside.rank.items;
      distance = c.self.inside.distance.items;
      from = c.self.inside.from.items;
    } in
    let r : IsReady c.args.rank s c.args.block c.args.pe = ready c.args.rank s c.args.self.now c.args.block c.args.pe c.self.view_is
    c.requires.sized c.requires.matched c.requires.tree c.requires.unnamed c.requires.nearest c.requires.held in
    ap (λ (xs : List ℕ). length xs) c.deref_mut-2.ensures.value ∙ r.sized.from_length ∙ sym c.row.ensures.counted

pub scan-requires-clause-near : goal.scan-requires-clause-near
scan-requires-clause-near g c =
    let s : State = record {
      table = c.self.inside.table.now;
      named = c.self.inside.named;
      names = c.self.inside.names.items;
      holders = c.self.inside.holders.items;
      price = c.self.inside.price.items;
      discount = c.self.inside.discount.items;
      rank = c.self.inside.rank.items;
      distance = c.self.inside.distance.items;
      from = c.self.inside.from.items;
    } in
    let r : IsReady c.args.rank s c.args.block c.args.pe = ready c.args.rank s c.args.self.now c.args.block c.args.pe c.self.view_is
    c.requires.sized c.requires.matched c.requires.tree c.requires.unnamed c.requires.nearest c.requires.held in
    let far : c.index-2.result.now ≡ slice_index s.distance c.args.pe = get_or_read s.distance c.args.pe c.index-2.result.now r.pe_in_distance c.index-2.ensures 0 in
    ready_near c.args.rank s c.args.block c.args.pe c.index-2.result.now r far

pub scan-requires-clause-small : goal.scan-requires-clause-small
scan-requires-clause-small g c =
    let s : State = record {
      table = c.self.inside.table.now;
      named = c.self.inside.named;
      names = c.self.inside.names.items;
      holders = c.self.inside.holders.items;
      price = c.self.inside.price.items;
      discount = c.self.inside.discount.items;
      rank = c.self.inside.rank.items;
      distance = c.self.inside.distance.items;
      from = c.self.inside.from.items;
    } in
    let r : IsReady c.args.rank s c.args.block c.args.pe = ready c.args.rank s c.args.self.now c.args.block c.args.pe c.self.view_is
    c.requires.sized c.requires.matched c.requires.tree c.requires.unnamed c.requires.nearest c.requires.held in
    let row : IsRow s c.args.block c.row.result.now = record { inside = r.block; counted = c.row.ensures.counted; costs = c.row.ensures.costs } in
    rw c.deref.ensures.value (row_small s c.args.block c.row.result.now r.sized r.matched r.joins.inside row)

pub scan-requires-clause-low : goal.scan-requires-clause-low
scan-requires-clause-low g c =
    let s : State = record {
      table = c.self.inside.table.now;
      named = c.self.inside.named;
      names = c.self.inside.names.items;
      holders = c.self.inside.holders.items;
      price = c.self.inside.price.items;
      discount = c.self.inside.discount.items;
      rank = c.self.inside.rank.items;
      distance = c.self.inside.distance.items;
      from = c.self.inside.from.items;
    } in
    let r : IsReady c.args.rank s c.args.block c.args.pe = ready c.args.rank s c.args.self.now c.args.block c.args.pe c.self.view_is
    c.requires.sized c.requires.matched c.requires.tree c.requires.unnamed c.requires.nearest c.requires.held in
    let row : IsRow s c.args.block c.row.result.now = record { inside = r.block; counted = c.row.ensures.counted; costs = c.row.ensures.costs } in
    let price : c.index.result.now ≡ slice_index s.price c.args.block = get_or_read s.price c.args.block c.index.result.now r.block_in_price c.index.ensures 0 in
    rw c.deref.ensures.value (row_low s c.args.block c.index.result.now c.row.result.now r.matched row price)

pub returns-clause-sized : goal.returns-clause-sized
returns-clause-sized g c =
    let s : State = record {
      table = c.self.inside.table.now;
      named = c.self.inside.named;
      names = c.self.inside.names.items;
      holders = c.self.inside.holders.items;
      price = c.self.inside.price.items;
      discount = c.self.inside.discount.items;
      rank = c.self.inside.rank.items;
      distance = c.self.inside.distance.items;
      from = c.self.inside.from.items;
    } in
    let r : IsReady c.args.rank s c.args.block c.args.pe = ready c.args.rank s c.args.self.now c.args.block c.args.pe c.self.view_is
    c.requires.sized c.requires.matched c.requires.tree c.requires.unnamed c.requires.nearest c.requires.held in
    let w : take c.self.inside.distance.len (c.scan.new.distance
    ++ drop (length c.scan.new.distance) c.self.inside.distance.items) ≡ c.scan.new.distance = written _ _ _
    (c.scan.auto.distance ∙ c.deref_mut.ensures.len) in
    let w2 : take c.self.inside.from.len (c.scan.new.from
    ++ drop (length c.scan.new.from) c.self.inside.from.items) ≡ c.scan.new.from = written _ _ _ (c.scan.auto.from ∙ c.deref_mut-2.ensures.len) in
    rw (w, w2) (grown_sized s (set s.rank c.args.pe c.args.rank) c.scan.new.distance c.scan.new.from r.sized
    (length-set s.rank c.args.pe c.args.rank ∙ r.sized.rank_length)
    (c.scan.auto.distance ∙ ap (λ (xs : List ℕ). length xs) c.deref_mut.ensures.value ∙ r.sized.distance_length)
    (c.scan.auto.from ∙ ap (λ (xs : List ℕ). length xs) c.deref_mut-2.ensures.value ∙ r.sized.from_length))

pub returns-clause-matched : goal.returns-clause-matched
returns-clause-matched g c =
    let s : State = record {
      table = c.self.inside.table.now;
      named = c.self.inside.named;
      names = c.self.inside.names.items;
      holders = c.self.inside.holders.items;
      price = c.self.inside.price.items;
      discount = c.self.inside.discount.items;
      rank = c.self.inside.rank.items;
      distance = c.self.inside.distance.items;
      from = c.self.inside.from.items;
    } in
    let r : IsReady c.args.rank s c.args.block c.args.pe = ready c.args.rank s c.args.self.now c.args.block c.args.pe c.self.view_is
    c.requires.sized c.requires.matched c.requires.tree c.requires.unnamed c.requires.nearest c.requires.held in
    grown_matched s _ _ _ r.matched

pub returns-clause-tree : goal.returns-clause-tree
returns-clause-tree g c =
    let s : State = record {
      table = c.self.inside.table.now;
      named = c.self.inside.named;
      names = c.self.inside.names.items;
      holders = c.self.inside.holders.items;
      price = c.self.inside.price.items;
      discount = c.self.inside.discount.items;
      rank = c.self.inside.rank.items;
      distance = c.self.inside.distance.items;
      from = c.self.inside.from.items;
    } in
    let r : IsReady c.args.rank s c.args.block c.args.pe = ready c.args.rank s c.args.self.now c.args.block c.args.pe c.self.view_is
    c.requires.sized c.requires.matched c.requires.tree c.requires.unnamed c.requires.nearest c.requires.held in
    let price : c.index.result.now ≡ slice_index s.price c.args.block = get_or_read s.price c.args.block c.index.result.now r.block_in_price c.index.ensures 0 in
    let far : c.index-2.result.now ≡ slice_index s.distance c.args.pe = get_or_read s.distance c.args.pe c.index-2.result.now r.pe_in_distance c.index-2.ensures 0 in
    let row : IsRow s c.args.block c.row.result.now = record { inside = r.block; counted = c.row.ensures.counted; costs = c.row.ensures.costs } in
    let w : take c.self.inside.distance.len (c.scan.new.distance
    ++ drop (length c.scan.new.distance) c.self.inside.distance.items) ≡ c.scan.new.distance = written _ _ _
    (c.scan.auto.distance ∙ c.deref_mut.ensures.len) in
    let w2 : take c.self.inside.from.len (c.scan.new.from
    ++ drop (length c.scan.new.from) c.self.inside.from.items) ≡ c.scan.new.from = written _ _ _ (c.scan.auto.from ∙ c.deref_mut-2.ensures.len) in
    let relaxed : Relaxed s (slice_index s.distance c.args.pe) (set s.rank c.args.pe c.args.rank) c.args.block c.scan.new.distance
    c.scan.new.from = relaxed_by_row s (slice_index s.distance c.args.pe) (set s.rank c.args.pe c.args.rank) c.args.block
    c.row.result.now s.distance c.scan.new.distance c.scan.new.from row
    (let h = rw (price, far, c.deref.ensures.value, c.deref-2.ensures.value, c.deref_mut.ensures.value, c.deref_mut-2.ensures.value) at
    c.scan.ensures.relaxed in h) in
    let kept : Kept s (set s.rank c.args.pe c.args.rank) c.scan.new.distance c.scan.new.from = record {
      distances = (let h = rw (c.deref-2.ensures.value, c.deref_mut.ensures.value) at c.scan.ensures.kept_distance in h);
      froms = (let h = rw (c.deref-2.ensures.value, c.deref_mut-2.ensures.value) at c.scan.ensures.kept_from in h);
    } in
    rw (w, w2) (grown_tree c.args.rank s c.args.block c.args.pe c.scan.new.distance c.scan.new.from r.sized r.matched r.tree r.joins relaxed kept)

pub returns-clause-table : goal.returns-clause-table
returns-clause-table g c =
    ap (λ (z : State). z.table) c.self.view_is

pub returns-clause-named : goal.returns-clause-named
returns-clause-named g c =
    ap (λ (z : State). z.named) c.self.view_is

pub returns-clause-unscanned : goal.returns-clause-unscanned
returns-clause-unscanned g c =
    let s : State = record {
      table = c.self.inside.table.now;
      named = c.self.inside.named;
      names = c.self.inside.names.items;
      holders = c.self.inside.holders.items;
      price = c.self.inside.price.items;
      discount = c.self.inside.discount.items;
      rank = c.self.inside.rank.items;
      distance = c.self.inside.distance.items;
      from = c.self.inside.from.items;
    } in
    let r : IsReady c.args.rank s c.args.block c.args.pe = ready c.args.rank s c.args.self.now c.args.block c.args.pe c.self.view_is
    c.requires.sized c.requires.matched c.requires.tree c.requires.unnamed c.requires.nearest c.requires.held in
    one_scanned s.rank c.args.pe c.args.rank r.pe_in_rank r.joins.nearest.apart r.tree.some ∙ ap (λ (z : State). unscanned z.rank) c.self.view_is

pub scan-requires-clause-unscanned : goal.scan-requires-clause-unscanned
scan-requires-clause-unscanned g c =
    let ranks : List ℕ = set c.self.inside.rank.items c.args.pe c.args.rank in
    let listed : IsUnscanned ranks c.args.to_scan.now c.self.inside.table.now.blocks = subst
    (λ (z : State). IsUnscanned (set z.rank c.args.pe c.args.rank) c.args.to_scan.now z.table.blocks) (sym c.self.view_is) c.requires.listed in
    rw c.deref-2.ensures.value (subst (λ n. IsUnscanned ranks c.args.to_scan.now n) (sym c.row.ensures.counted) listed)

pub returns-clause-listed : goal.returns-clause-listed
returns-clause-listed g c =
    subst (λ (z : State). IsUnscanned (set z.rank c.args.pe c.args.rank) c.args.to_scan.now c.args.self.now.table.blocks) (sym c.self.view_is) c.requires.listed

pub returns-clause-nearest : goal.returns-clause-nearest
returns-clause-nearest g c =
    let s : State = record {
      table = c.self.inside.table.now;
      named = c.self.inside.named;
      names = c.self.inside.names.items;
      holders = c.self.inside.holders.items;
      price = c.self.inside.price.items;
      discount = c.self.inside.discount.items;
      rank = c.self.inside.rank.items;
      distance = c.self.inside.distance.items;
      from = c.self.inside.from.items;
    } in
    let w : take c.self.inside.distance.len (c.scan.new.distance
    ++ drop (length c.scan.new.distance) c.self.inside.distance.items) ≡ c.scan.new.distance = written _ _ _
    (c.scan.auto.distance ∙ c.deref_mut.ensures.len) in
    let h = rw c.deref-2.ensures.value at c.scan.ensures.nearest in
    let counted : length c.row.result.now ≡ c.args.self.now.table.blocks = c.row.ensures.counted ∙ ap (λ (z : State). z.table.blocks) c.self.view_is in
    rw w (subst (λ n. MatchOption c.scan.result ((p : ℕ) → p < n → 0 < slice_index (set s.rank c.args.pe c.args.rank) p)
    (λ place. IsNearest (set s.rank c.args.pe c.args.rank) c.scan.new.distance n (slice_index c.args.to_scan.now place))) counted h)

pub returns-clause-inside : goal.returns-clause-inside
returns-clause-inside g c = c.scan.ensures.listed
