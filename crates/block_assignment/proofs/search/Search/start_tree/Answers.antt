use Rattle.std.proofs.Common.{◌≡◌, ℕ, ◌<◌, ◌++◌, List, Option, MatchOption, length, take, drop, slice_index, arith, ap, sym, ◌∙◌, subst, refl}
use Rattle.std.proofs.lemmas.List.{get_or_read}
use Rattle.block_assignment.specs.Search.{State, IsNearest, IsUnscanned}
use Rattle.block_assignment.proofs.Joinings.{IsRow, row_low, row_small, relaxed_by_row, IsNext, next_ready}
use Rattle.block_assignment.proofs.Trees.{written, grown_sized, grown_matched, none_scanned, started_tree, StartsTree}
use Rattle.block_assignment.proofs.Unscanned.{all_listed}
use Rattle.block_assignment.proofs.search.Search.start_tree.Goals as goal

pub index-requires : goal.index-requires
index-requires g c =
    let s : State = record {
      table = c.self.inside.table.now;
      named = c.self.inside.named;
      names = c.self.inside.names.items;
      holders = c.self.inside.holders.items;
      price = c.self.inside.price.items;
      discount = c.self.inside.discount.items;
      rank = c.self.inside.rank.items;
      distance = c.self.inside.distance.items;
      from = c.self.inside.from.items;
    } in
    let r : IsNext s = next_ready s c.args.self.now c.self.view_is c.requires.sized c.requires.matched c.requires.unnamed in
    omega (arith, r.in_price)

pub row-requires : goal.row-requires
row-requires g c =
    subst (λ (z : State). z.named < z.table.blocks) (sym c.self.view_is) c.requires.unnamed

pub scan-requires-clause-discounts : goal.scan-requires-clause-discounts
scan-requires-clause-discounts g c =
    let s : State = record {
      table = c.self.inside.table.now;
      named = c.self.inside.named;
      names = c.self.inside.names.items;
      holders = c.self.inside.holders.items;
      price = c.self.inside.price.items;
      discount = c.self.inside.discount.items;
      rank = c.self.inside.rank.items;
      distance = c.self.inside.distance.items;
      from = c.self.inside.from.items;
    } in
    let r : IsNext s = next_ready s c.args.self.now c.self.view_is c.requires.sized c.requires.matched c.requires.unnamed in
    ap (λ (xs : List ℕ). length xs) c.deref.ensures.value ∙ r.sized.discount_length ∙ sym c.row.ensures.counted

pub scan-requires-clause-ranks : goal.scan-requires-clause-ranks
scan-requires-clause-ranks g c =
    let s : State = record {
      table = c.self.inside.table.now;
      named = c.self.inside.named;
      names = c.self.inside.names.items;
      holders = c.self.inside.holders.items;
      price = c.self.inside.price.items;
      discount = c.self.inside.discount.items;
      rank = c.self.inside.rank.items;
      distance = c.self.inside.distance.items;
      from = c.self.inside.from.items;
    } in
    let r : IsNext s = next_ready s c.args.self.now c.self.view_is c.requires.sized c.requires.matched c.requires.unnamed in
    omega (arith, c.deref-2.ensures.len, c.row.ensures.counted, c.fill.ensures.len, r.sized.rank_length)

pub scan-requires-clause-held : goal.scan-requires-clause-held
scan-requires-clause-held g c =
    let s : State = record {
      table = c.self.inside.table.now;
      named = c.self.inside.named;
      names = c.self.inside.names.items;
      holders = c.self.inside.holders.items;
      price = c.self.inside.price.items;
      discount = c.self.inside.discount.items;
      rank = c.self.inside.rank.items;
      distance = c.self.inside.distance.items;
      from = c.self.inside.from.items;
    } in
    let r : IsNext s = next_ready s c.args.self.now c.self.view_is c.requires.sized c.requires.matched c.requires.unnamed in
    ap (λ (xs : List (Option ℕ)). length xs) c.deref-3.ensures.value ∙ r.sized.holders_length ∙ sym c.row.ensures.counted

pub scan-requires-clause-distances : goal.scan-requires-clause-distances
scan-requires-clause-distances g c =
    let s : State = record {
      table = c.self.inside.table.now;
      named = c.self.inside.named;
      names = c.self.inside.names.items;
      holders = c.self.inside.holders.items;
      price = c.self.inside.price.items;
      discount = c.self.inside.discount.items;
      rank = c.self.inside.rank.items;
      distance = c.self.inside.distance.items;
      from = c.self.inside.from.items;
    } in
    let r : IsNext s = next_ready s c.args.self.now c.self.view_is c.requires.sized c.requires.matched c.requires.unnamed in
    omega (arith, c.deref_mut.ensures.len, c.row.ensures.counted, c.fill-2.ensures.len, r.sized.distance_length)

pub scan-requires-clause-froms : goal.scan-requires-clause-froms
scan-requires-clause-froms g c =
    let s : State = record {
      table = c.self.inside.table.now;
      named = c.self.inside.named;
      names = c.self.inside.names.items;
      holders = c.self.inside.holders.items;
      price = c.self.inside.price.items;
      discount = c.self.inside.discount.items;
      rank = c.self.inside.rank.items;
      distance = c.self.inside.distance.items;
      from = c.self.inside.from.items;
    } in
    let r : IsNext s = next_ready s c.args.self.now c.self.view_is c.requires.sized c.requires.matched c.requires.unnamed in
    ap (λ (xs : List ℕ). length xs) c.deref_mut-2.ensures.value ∙ r.sized.from_length ∙ sym c.row.ensures.counted

pub scan-requires-clause-near : goal.scan-requires-clause-near
scan-requires-clause-near g c =
    omega arith

pub scan-requires-clause-small : goal.scan-requires-clause-small
scan-requires-clause-small g c =
    let s : State = record {
      table = c.self.inside.table.now;
      named = c.self.inside.named;
      names = c.self.inside.names.items;
      holders = c.self.inside.holders.items;
      price = c.self.inside.price.items;
      discount = c.self.inside.discount.items;
      rank = c.self.inside.rank.items;
      distance = c.self.inside.distance.items;
      from = c.self.inside.from.items;
    } in
    let r : IsNext s = next_ready s c.args.self.now c.self.view_is c.requires.sized c.requires.matched c.requires.unnamed in
    let row : IsRow s s.named c.row.result.now = record { inside = r.unnamed; counted = c.row.ensures.counted; costs = c.row.ensures.costs } in
    rw c.deref.ensures.value (row_small s s.named c.row.result.now r.sized r.matched r.unnamed row)

pub scan-requires-clause-low : goal.scan-requires-clause-low
scan-requires-clause-low g c =
    let s : State = record {
      table = c.self.inside.table.now;
      named = c.self.inside.named;
      names = c.self.inside.names.items;
      holders = c.self.inside.holders.items;
      price = c.self.inside.price.items;
      discount = c.self.inside.discount.items;
      rank = c.self.inside.rank.items;
      distance = c.self.inside.distance.items;
      from = c.self.inside.from.items;
    } in
    let r : IsNext s = next_ready s c.args.self.now c.self.view_is c.requires.sized c.requires.matched c.requires.unnamed in
    let row : IsRow s s.named c.row.result.now = record { inside = r.unnamed; counted = c.row.ensures.counted; costs = c.row.ensures.costs } in
    let price : c.index.result.now ≡ slice_index s.price s.named = get_or_read s.price s.named c.index.result.now r.in_price c.index.ensures 0 in
    rw c.deref.ensures.value (row_low s s.named c.index.result.now c.row.result.now r.matched row price)

pub returns-clause-sized : goal.returns-clause-sized
returns-clause-sized g c =
    let s : State = record {
      table = c.self.inside.table.now;
      named = c.self.inside.named;
      names = c.self.inside.names.items;
      holders = c.self.inside.holders.items;
      price = c.self.inside.price.items;
      discount = c.self.inside.discount.items;
      rank = c.self.inside.rank.items;
      distance = c.self.inside.distance.items;
      from = c.self.inside.from.items;
    } in
    let r : IsNext s = next_ready s c.args.self.now c.self.view_is c.requires.sized c.requires.matched c.requires.unnamed in
    let w : take c.fill-2.new.self.len (c.scan.new.distance
    ++ drop (length c.scan.new.distance) c.fill-2.new.self.items) ≡ c.scan.new.distance = written _ _ _ (c.scan.auto.distance ∙ c.deref_mut.ensures.len) in
    let w2 : take c.self.inside.from.len (c.scan.new.from
    ++ drop (length c.scan.new.from) c.self.inside.from.items) ≡ c.scan.new.from = written _ _ _ (c.scan.auto.from ∙ c.deref_mut-2.ensures.len) in
    rw (w, w2) (grown_sized s c.fill.new.self.items c.scan.new.distance c.scan.new.from r.sized
    (omega (arith, c.fill.ensures.len, r.sized.rank_length))
    (c.scan.auto.distance ∙ omega (arith, c.deref_mut.ensures.len, c.fill-2.ensures.len, r.sized.distance_length))
    (c.scan.auto.from ∙ ap (λ (xs : List ℕ). length xs) c.deref_mut-2.ensures.value ∙ r.sized.from_length))

pub returns-clause-matched : goal.returns-clause-matched
returns-clause-matched g c =
    let s : State = record {
      table = c.self.inside.table.now;
      named = c.self.inside.named;
      names = c.self.inside.names.items;
      holders = c.self.inside.holders.items;
      price = c.self.inside.price.items;
      discount = c.self.inside.discount.items;
      rank = c.self.inside.rank.items;
      distance = c.self.inside.distance.items;
      from = c.self.inside.from.items;
    } in
    let r : IsNext s = next_ready s c.args.self.now c.self.view_is c.requires.sized c.requires.matched c.requires.unnamed in
    grown_matched s _ _ _ r.matched

pub returns-clause-tree : goal.returns-clause-tree
returns-clause-tree g c =
    let s : State = record {
      table = c.self.inside.table.now;
      named = c.self.inside.named;
      names = c.self.inside.names.items;
      holders = c.self.inside.holders.items;
      price = c.self.inside.price.items;
      discount = c.self.inside.discount.items;
      rank = c.self.inside.rank.items;
      distance = c.self.inside.distance.items;
      from = c.self.inside.from.items;
    } in
    let r : IsNext s = next_ready s c.args.self.now c.self.view_is c.requires.sized c.requires.matched c.requires.unnamed in
    let price : c.index.result.now ≡ slice_index s.price s.named = get_or_read s.price s.named c.index.result.now r.in_price c.index.ensures 0 in
    let row : IsRow s s.named c.row.result.now = record { inside = r.unnamed; counted = c.row.ensures.counted; costs = c.row.ensures.costs } in
    let w : take c.fill-2.new.self.len (c.scan.new.distance
    ++ drop (length c.scan.new.distance) c.fill-2.new.self.items) ≡ c.scan.new.distance = written _ _ _ (c.scan.auto.distance ∙ c.deref_mut.ensures.len) in
    let w2 : take c.self.inside.from.len (c.scan.new.from
    ++ drop (length c.scan.new.from) c.self.inside.from.items) ≡ c.scan.new.from = written _ _ _ (c.scan.auto.from ∙ c.deref_mut-2.ensures.len) in
    let unranked : (p : ℕ) → p < s.table.blocks → slice_index c.fill.new.self.items p ≡ 0 = λ p
    inside. (c.fill.ensures.clones p 0 (omega (arith, inside, r.sized.rank_length)) refl) in
    let starts_tree : StartsTree s c.fill.new.self.items c.fill-2.new.self.items s.from c.scan.new.distance c.scan.new.from = record {
      unranked = unranked;
      far = λ p inside. (c.fill-2.ensures.clones p 0 (omega (arith, inside, r.sized.distance_length)) refl);
      relaxed = λ p inside. relaxed_by_row s 0 c.fill.new.self.items s.named c.row.result.now c.fill-2.new.self.items c.scan.new.distance
          c.scan.new.from row (let h = rw (
            price,
            c.deref.ensures.value,
            c.deref-2.ensures.value,
            c.deref_mut.ensures.value,
            c.deref_mut-2.ensures.value,
          ) at c.scan.ensures.relaxed in h) p inside (unranked p inside);
    } in
    rw (w, w2) (started_tree s c.fill.new.self.items c.fill-2.new.self.items s.from c.scan.new.distance c.scan.new.from r.sized r.matched r.unnamed starts_tree)

pub returns-clause-table : goal.returns-clause-table
returns-clause-table g c =
    ap (λ (z : State). z.table) c.self.view_is

pub returns-clause-named : goal.returns-clause-named
returns-clause-named g c =
    ap (λ (z : State). z.named) c.self.view_is

pub returns-clause-unscanned : goal.returns-clause-unscanned
returns-clause-unscanned g c =
    let s : State = record {
      table = c.self.inside.table.now;
      named = c.self.inside.named;
      names = c.self.inside.names.items;
      holders = c.self.inside.holders.items;
      price = c.self.inside.price.items;
      discount = c.self.inside.discount.items;
      rank = c.self.inside.rank.items;
      distance = c.self.inside.distance.items;
      from = c.self.inside.from.items;
    } in
    let r : IsNext s = next_ready s c.args.self.now c.self.view_is c.requires.sized c.requires.matched c.requires.unnamed in
    let counted : length c.fill.new.self.items ≡ s.table.blocks = omega (arith, c.fill.ensures.len, r.sized.rank_length) in
    none_scanned c.fill.new.self.items (λ p inside. c.fill.ensures.clones p 0 (omega (arith, inside, c.fill.ensures.len)) refl) ∙ counted
    ∙ ap (λ (z : State). z.table.blocks) c.self.view_is

pub scan-requires-clause-unscanned : goal.scan-requires-clause-unscanned
scan-requires-clause-unscanned g c =
    let end : ℕ = c.args.self.now.table.blocks in
    let counted : length c.self.inside.rank.items ≡ end = ap (λ (z : State). length z.rank) c.self.view_is ∙ c.requires.sized.rank_length in
    let none : (p : ℕ) → p < end → slice_index c.fill.new.self.items p ≡ 0 = λ p inside. c.fill.ensures.clones p 0 (omega (arith, inside, counted)) refl in
    let row : length c.row.result.now ≡ end = c.row.ensures.counted ∙ ap (λ (z : State). z.table.blocks) c.self.view_is in
    rw c.deref-2.ensures.value (subst (λ n. IsUnscanned c.fill.new.self.items c.args.to_scan.now n) (sym row)
    (all_listed c.fill.new.self.items c.args.to_scan.now end none c.requires.counted c.requires.each))

pub returns-clause-listed : goal.returns-clause-listed
returns-clause-listed g c =
    let end : ℕ = c.args.self.now.table.blocks in
    let counted : length c.self.inside.rank.items ≡ end = ap (λ (z : State). length z.rank) c.self.view_is ∙ c.requires.sized.rank_length in
    let none : (p : ℕ) → p < end → slice_index c.fill.new.self.items p ≡ 0 = λ p inside. c.fill.ensures.clones p 0 (omega (arith, inside, counted)) refl in
    all_listed c.fill.new.self.items c.args.to_scan.now end none c.requires.counted c.requires.each

pub returns-clause-nearest : goal.returns-clause-nearest
returns-clause-nearest g c =
    let w : take c.fill-2.new.self.len (c.scan.new.distance
    ++ drop (length c.scan.new.distance) c.fill-2.new.self.items) ≡ c.scan.new.distance = written _ _ _ (c.scan.auto.distance ∙ c.deref_mut.ensures.len) in
    let h = rw c.deref-2.ensures.value at c.scan.ensures.nearest in
    let counted : length c.row.result.now ≡ c.args.self.now.table.blocks = c.row.ensures.counted ∙ ap (λ (z : State). z.table.blocks) c.self.view_is in
    rw w (subst (λ n. MatchOption c.scan.result ((p : ℕ) → p < n → 0 < slice_index c.fill.new.self.items p)
    (λ place. IsNearest c.fill.new.self.items c.scan.new.distance n (slice_index c.args.to_scan.now place))) counted h)

pub returns-clause-inside : goal.returns-clause-inside
returns-clause-inside g c = c.scan.ensures.listed
