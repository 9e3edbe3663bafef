use Rattle.std.proofs.Common.{◌≡◌, ℕ, ◌+◌, ◌≤◌, ◌++◌, List, length, take, drop, set, slice_index, arith, ap, sym, ◌∙◌, subst}
use Rattle.std.proofs.lemmas.List.{get_or_read, get_or-set_same, get_or-set_other, get_or-take, length-set}
use Rattle.block_assignment.specs.Search.{State, IsRaised}
use Rattle.block_assignment.proofs.Trees.{written}
use Rattle.block_assignment.proofs.Raises.{Reprices, IsRaising, raising, raised_price, raised_discount, names_below, none_past, repriced_matched, repriced_path}
use Rattle.block_assignment.proofs.search.Search.raise.Goals as goal

pub index-reach-requires : goal.index-reach-requires
index-reach-requires g c =
    let s : State = record {
      table = c.self.inside.table.now;
      named = c.self.inside.named;
      names = c.self.inside.names.items;
      holders = c.self.inside.holders.items;
      price = c.self.inside.price.items;
      discount = c.self.inside.discount.items;
      rank = c.self.inside.rank.items;
      distance = c.self.inside.distance.items;
      from = c.self.inside.from.items;
    } in
    let r : IsRaising c.args.rank s c.args.pe = raising c.args.rank s c.args.self.now c.args.pe c.self.view_is c.requires.sized
    c.requires.matched c.requires.tree c.requires.unnamed c.requires.nearest c.requires.free in
    omega (arith, r.in_distance)

pub index_mut-requires : goal.index_mut-requires
index_mut-requires g c =
    let s : State = record {
      table = c.self.inside.table.now;
      named = c.self.inside.named;
      names = c.self.inside.names.items;
      holders = c.self.inside.holders.items;
      price = c.self.inside.price.items;
      discount = c.self.inside.discount.items;
      rank = c.self.inside.rank.items;
      distance = c.self.inside.distance.items;
      from = c.self.inside.from.items;
    } in
    let r : IsRaising c.args.rank s c.args.pe = raising c.args.rank s c.args.self.now c.args.pe c.self.view_is c.requires.sized
    c.requires.matched c.requires.tree c.requires.unnamed c.requires.nearest c.requires.free in
    omega (arith, r.in_rank)

pub raise_prices-requires-clause-few : goal.raise_prices-requires-clause-few
raise_prices-requires-clause-few g c =
    let s : State = record {
      table = c.self.inside.table.now;
      named = c.self.inside.named;
      names = c.self.inside.names.items;
      holders = c.self.inside.holders.items;
      price = c.self.inside.price.items;
      discount = c.self.inside.discount.items;
      rank = c.self.inside.rank.items;
      distance = c.self.inside.distance.items;
      from = c.self.inside.from.items;
    } in
    let r : IsRaising c.args.rank s c.args.pe = raising c.args.rank s c.args.self.now c.args.pe c.self.view_is c.requires.sized
    c.requires.matched c.requires.tree c.requires.unnamed c.requires.nearest c.requires.free in
    rw c.deref.ensures.value (omega (arith, c.deref_mut.ensures.len, r.firsts, r.sized.price_length, r.unnamed))

pub raise_prices-requires-clause-counted : goal.raise_prices-requires-clause-counted
raise_prices-requires-clause-counted g c =
    let s : State = record {
      table = c.self.inside.table.now;
      named = c.self.inside.named;
      names = c.self.inside.names.items;
      holders = c.self.inside.holders.items;
      price = c.self.inside.price.items;
      discount = c.self.inside.discount.items;
      rank = c.self.inside.rank.items;
      distance = c.self.inside.distance.items;
      from = c.self.inside.from.items;
    } in
    let r : IsRaising c.args.rank s c.args.pe = raising c.args.rank s c.args.self.now c.args.pe c.self.view_is c.requires.sized
    c.requires.matched c.requires.tree c.requires.unnamed c.requires.nearest c.requires.free in
    ap (λ (xs : List ℕ). length xs) c.deref-3.ensures.value ∙ r.sized.distance_length
    ∙ sym (ap (λ (xs : List ℕ). length xs) c.deref-2.ensures.value ∙ length-set s.rank c.args.pe c.args.rank ∙ r.sized.rank_length)

pub raise_prices-requires-clause-below : goal.raise_prices-requires-clause-below
raise_prices-requires-clause-below g c =
    let s : State = record {
      table = c.self.inside.table.now;
      named = c.self.inside.named;
      names = c.self.inside.names.items;
      holders = c.self.inside.holders.items;
      price = c.self.inside.price.items;
      discount = c.self.inside.discount.items;
      rank = c.self.inside.rank.items;
      distance = c.self.inside.distance.items;
      from = c.self.inside.from.items;
    } in
    let r : IsRaising c.args.rank s c.args.pe = raising c.args.rank s c.args.self.now c.args.pe c.self.view_is c.requires.sized
    c.requires.matched c.requires.tree c.requires.unnamed c.requires.nearest c.requires.free in
    rw (c.deref.ensures.value, c.deref-2.ensures.value) (names_below c.args.rank s c.args.pe r)

pub raise_prices-requires-clause-reached : goal.raise_prices-requires-clause-reached
raise_prices-requires-clause-reached g c =
    let s : State = record {
      table = c.self.inside.table.now;
      named = c.self.inside.named;
      names = c.self.inside.names.items;
      holders = c.self.inside.holders.items;
      price = c.self.inside.price.items;
      discount = c.self.inside.discount.items;
      rank = c.self.inside.rank.items;
      distance = c.self.inside.distance.items;
      from = c.self.inside.from.items;
    } in
    let r : IsRaising c.args.rank s c.args.pe = raising c.args.rank s c.args.self.now c.args.pe c.self.view_is c.requires.sized
    c.requires.matched c.requires.tree c.requires.unnamed c.requires.nearest c.requires.free in
    let reach : c.index-reach.result.now ≡ slice_index s.distance c.args.pe = get_or_read s.distance c.args.pe c.index-reach.result.now r.in_distance c.index-reach.ensures 0 in
    rw (c.deref-2.ensures.value, c.deref-3.ensures.value) (none_past c.args.rank s c.args.pe c.index-reach.result.now r reach)

pub raise_prices-requires-clause-small : goal.raise_prices-requires-clause-small
raise_prices-requires-clause-small g c =
    let s : State = record {
      table = c.self.inside.table.now;
      named = c.self.inside.named;
      names = c.self.inside.names.items;
      holders = c.self.inside.holders.items;
      price = c.self.inside.price.items;
      discount = c.self.inside.discount.items;
      rank = c.self.inside.rank.items;
      distance = c.self.inside.distance.items;
      from = c.self.inside.from.items;
    } in
    let r : IsRaising c.args.rank s c.args.pe = raising c.args.rank s c.args.self.now c.args.pe c.self.view_is c.requires.sized
    c.requires.matched c.requires.tree c.requires.unnamed c.requires.nearest c.requires.free in
    let reach : c.index-reach.result.now ≡ slice_index s.distance c.args.pe = get_or_read s.distance c.args.pe c.index-reach.result.now r.in_distance c.index-reach.ensures 0 in
    rw c.deref_mut.ensures.value (raised_price c.args.rank s c.args.pe c.index-reach.result.now r reach)

pub overflow_add-index_mut : goal.overflow_add-index_mut
overflow_add-index_mut g c =
    let s : State = record {
      table = c.self.inside.table.now;
      named = c.self.inside.named;
      names = c.self.inside.names.items;
      holders = c.self.inside.holders.items;
      price = c.self.inside.price.items;
      discount = c.self.inside.discount.items;
      rank = c.self.inside.rank.items;
      distance = c.self.inside.distance.items;
      from = c.self.inside.from.items;
    } in
    let r : IsRaising c.args.rank s c.args.pe = raising c.args.rank s c.args.self.now c.args.pe c.self.view_is c.requires.sized
    c.requires.matched c.requires.tree c.requires.unnamed c.requires.nearest c.requires.free in
    let reach : c.index-reach.result.now ≡ slice_index s.distance c.args.pe = get_or_read s.distance c.args.pe c.index-reach.result.now r.in_distance c.index-reach.ensures 0 in
    let w : take c.self.inside.price.len (c.raise_prices.new.price
    ++ drop (length c.raise_prices.new.price) c.self.inside.price.items) ≡ c.raise_prices.new.price = written _ _ _
    (c.raise_prices.auto.price ∙ c.deref_mut.ensures.len) in
    let counted : length c.raise_prices.new.price ≡ s.table.blocks = c.raise_prices.auto.price ∙ ap (λ (xs : List ℕ). length xs) c.deref_mut.ensures.value ∙ r.sized.price_length in
    let others : (b : ℕ) → s.named ≤ b → slice_index c.raise_prices.new.price b ≡ slice_index s.price b = λ b
    past. (let h = rw (c.deref.ensures.value, c.deref_mut.ensures.value) at c.raise_prices.ensures.others in h b (omega (arith, past, r.firsts))) in
    let root : c.index_mut-2.result.now ≡ slice_index c.raise_prices.new.price s.named = get_or_read c.raise_prices.new.price s.named
    c.index_mut-2.result.now (omega (arith, counted, r.unnamed)) (let h = rw w at c.index_mut-2.ensures.value in h) 0 in
    omega (
      arith,
      root,
      others s.named (omega arith),
      raised_price c.args.rank s c.args.pe c.index-reach.result.now r reach s.named
          (omega (arith, r.unnamed, r.sized.price_length)),
    )

pub raise_discounts-requires-clause-counted : goal.raise_discounts-requires-clause-counted
raise_discounts-requires-clause-counted g c =
    let s : State = record {
      table = c.self.inside.table.now;
      named = c.self.inside.named;
      names = c.self.inside.names.items;
      holders = c.self.inside.holders.items;
      price = c.self.inside.price.items;
      discount = c.self.inside.discount.items;
      rank = c.self.inside.rank.items;
      distance = c.self.inside.distance.items;
      from = c.self.inside.from.items;
    } in
    let r : IsRaising c.args.rank s c.args.pe = raising c.args.rank s c.args.self.now c.args.pe c.self.view_is c.requires.sized
    c.requires.matched c.requires.tree c.requires.unnamed c.requires.nearest c.requires.free in
    ap (λ (xs : List ℕ). length xs) c.deref-4.ensures.value ∙ length-set s.rank c.args.pe c.args.rank ∙ r.sized.rank_length
    ∙ sym (ap (λ (xs : List ℕ). length xs) c.deref_mut-2.ensures.value ∙ r.sized.discount_length)

pub raise_discounts-requires-clause-distances : goal.raise_discounts-requires-clause-distances
raise_discounts-requires-clause-distances g c =
    let s : State = record {
      table = c.self.inside.table.now;
      named = c.self.inside.named;
      names = c.self.inside.names.items;
      holders = c.self.inside.holders.items;
      price = c.self.inside.price.items;
      discount = c.self.inside.discount.items;
      rank = c.self.inside.rank.items;
      distance = c.self.inside.distance.items;
      from = c.self.inside.from.items;
    } in
    let r : IsRaising c.args.rank s c.args.pe = raising c.args.rank s c.args.self.now c.args.pe c.self.view_is c.requires.sized
    c.requires.matched c.requires.tree c.requires.unnamed c.requires.nearest c.requires.free in
    ap (λ (xs : List ℕ). length xs) c.deref-5.ensures.value ∙ r.sized.distance_length ∙ sym (ap (λ (xs : List ℕ). length xs) c.deref_mut-2.ensures.value ∙ r.sized.discount_length)

pub raise_discounts-requires-clause-reached : goal.raise_discounts-requires-clause-reached
raise_discounts-requires-clause-reached g c =
    let s : State = record {
      table = c.self.inside.table.now;
      named = c.self.inside.named;
      names = c.self.inside.names.items;
      holders = c.self.inside.holders.items;
      price = c.self.inside.price.items;
      discount = c.self.inside.discount.items;
      rank = c.self.inside.rank.items;
      distance = c.self.inside.distance.items;
      from = c.self.inside.from.items;
    } in
    let r : IsRaising c.args.rank s c.args.pe = raising c.args.rank s c.args.self.now c.args.pe c.self.view_is c.requires.sized
    c.requires.matched c.requires.tree c.requires.unnamed c.requires.nearest c.requires.free in
    let reach : c.index-reach.result.now ≡ slice_index s.distance c.args.pe = get_or_read s.distance c.args.pe c.index-reach.result.now r.in_distance c.index-reach.ensures 0 in
    rw (c.deref-4.ensures.value, c.deref-5.ensures.value) (none_past c.args.rank s c.args.pe c.index-reach.result.now r reach)

pub raise_discounts-requires-clause-small : goal.raise_discounts-requires-clause-small
raise_discounts-requires-clause-small g c =
    let s : State = record {
      table = c.self.inside.table.now;
      named = c.self.inside.named;
      names = c.self.inside.names.items;
      holders = c.self.inside.holders.items;
      price = c.self.inside.price.items;
      discount = c.self.inside.discount.items;
      rank = c.self.inside.rank.items;
      distance = c.self.inside.distance.items;
      from = c.self.inside.from.items;
    } in
    let r : IsRaising c.args.rank s c.args.pe = raising c.args.rank s c.args.self.now c.args.pe c.self.view_is c.requires.sized
    c.requires.matched c.requires.tree c.requires.unnamed c.requires.nearest c.requires.free in
    let reach : c.index-reach.result.now ≡ slice_index s.distance c.args.pe = get_or_read s.distance c.args.pe c.index-reach.result.now r.in_distance c.index-reach.ensures 0 in
    rw c.deref_mut-2.ensures.value (raised_discount c.args.rank s c.args.pe c.index-reach.result.now r reach)

-- the prices and discounts at the end
repriced : (g : _) (c : goal.After-self-4-1 g) → Reprices c.args.rank
    (record {
      table = c.self.inside.table.now;
      named = c.self.inside.named;
      names = c.self.inside.names.items;
      holders = c.self.inside.holders.items;
      price = c.self.inside.price.items;
      discount = c.self.inside.discount.items;
      rank = c.self.inside.rank.items;
      distance = c.self.inside.distance.items;
      from = c.self.inside.from.items;
    }) c.args.pe
    (set c.raise_prices.new.price c.self.inside.named (c.index_mut-2.result.now + c.index-reach.result.now)) c.raise_discounts.new.discount
repriced g c =
    let s : State = record {
      table = c.self.inside.table.now;
      named = c.self.inside.named;
      names = c.self.inside.names.items;
      holders = c.self.inside.holders.items;
      price = c.self.inside.price.items;
      discount = c.self.inside.discount.items;
      rank = c.self.inside.rank.items;
      distance = c.self.inside.distance.items;
      from = c.self.inside.from.items;
    } in
    let r : IsRaising c.args.rank s c.args.pe = raising c.args.rank s c.args.self.now c.args.pe c.self.view_is c.requires.sized
    c.requires.matched c.requires.tree c.requires.unnamed c.requires.nearest c.requires.free in
    let reach : c.index-reach.result.now ≡ slice_index s.distance c.args.pe = get_or_read s.distance c.args.pe c.index-reach.result.now r.in_distance c.index-reach.ensures 0 in
    let w : take c.self.inside.price.len (c.raise_prices.new.price
    ++ drop (length c.raise_prices.new.price) c.self.inside.price.items) ≡ c.raise_prices.new.price = written _ _ _
    (c.raise_prices.auto.price ∙ c.deref_mut.ensures.len) in
    let counted : length c.raise_prices.new.price ≡ s.table.blocks = c.raise_prices.auto.price ∙ ap (λ (xs : List ℕ). length xs) c.deref_mut.ensures.value ∙ r.sized.price_length in
    let others : (b : ℕ) → s.named ≤ b → slice_index c.raise_prices.new.price b ≡ slice_index s.price b = λ b
    past. (let h = rw (c.deref.ensures.value, c.deref_mut.ensures.value) at c.raise_prices.ensures.others in h b (omega (arith, past, r.firsts))) in
    let root : c.index_mut-2.result.now ≡ slice_index c.raise_prices.new.price s.named = get_or_read c.raise_prices.new.price s.named
    c.index_mut-2.result.now (omega (arith, counted, r.unnamed)) (let h = rw w at c.index_mut-2.ensures.value in h) 0 in
    record {
      inside = r.unnamed;
      nearest = r.near;
      free = r.free;
      root = get_or-set_same c.raise_prices.new.price s.named (c.index_mut-2.result.now + c.index-reach.result.now) 0
          (omega (arith, counted, r.unnamed)) ∙ omega (arith, root, reach, others s.named (omega arith));
      joined = λ b named.
          let same : slice_index (set c.raise_prices.new.price s.named (c.index_mut-2.result.now + c.index-reach.result.now))
          b ≡ slice_index c.raise_prices.new.price b = get_or-set_other c.raise_prices.new.price s.named b
          (c.index_mut-2.result.now + c.index-reach.result.now) 0 (omega arith) in
          let h = rw (reach, c.deref.ensures.value, c.deref-2.ensures.value, c.deref-3.ensures.value, c.deref_mut.ensures.value) at c.raise_prices.ensures.named in
          let first : slice_index (take s.named s.names) b ≡ slice_index s.names b = get_or-take s.named s.names b 0 named in
          let raised : IsRaised (slice_index (set s.rank c.args.pe c.args.rank) (slice_index (take s.named s.names) b))
          (slice_index s.distance (slice_index (take s.named s.names) b)) (slice_index s.distance c.args.pe) (slice_index s.price b)
          (slice_index c.raise_prices.new.price b) = h b (omega (arith, named, r.firsts)) in
          subst (λ x. IsRaised (slice_index (set s.rank c.args.pe c.args.rank) (slice_index s.names b))
          (slice_index s.distance (slice_index s.names b)) (slice_index s.distance c.args.pe) (slice_index s.price b) x) (sym same)
          (subst (λ q. IsRaised (slice_index (set s.rank c.args.pe c.args.rank) q) (slice_index s.distance q)
          (slice_index s.distance c.args.pe) (slice_index s.price b) (slice_index c.raise_prices.new.price b)) first raised);
      later = λ b past. get_or-set_other c.raise_prices.new.price s.named b (c.index_mut-2.result.now + c.index-reach.result.now) 0 (omega arith) ∙ others b (omega arith);
      pes = λ p inside. (let h = rw (reach, c.deref-4.ensures.value, c.deref-5.ensures.value, c.deref_mut-2.ensures.value) at
          c.raise_discounts.ensures in h p (omega (arith, inside, r.sized.discount_length)));
    }

pub returns-clause-sized : goal.returns-clause-sized
returns-clause-sized g c =
    let s : State = record {
      table = c.self.inside.table.now;
      named = c.self.inside.named;
      names = c.self.inside.names.items;
      holders = c.self.inside.holders.items;
      price = c.self.inside.price.items;
      discount = c.self.inside.discount.items;
      rank = c.self.inside.rank.items;
      distance = c.self.inside.distance.items;
      from = c.self.inside.from.items;
    } in
    let r : IsRaising c.args.rank s c.args.pe = raising c.args.rank s c.args.self.now c.args.pe c.self.view_is c.requires.sized
    c.requires.matched c.requires.tree c.requires.unnamed c.requires.nearest c.requires.free in
    let w : take c.self.inside.price.len (c.raise_prices.new.price
    ++ drop (length c.raise_prices.new.price) c.self.inside.price.items) ≡ c.raise_prices.new.price = written _ _ _
    (c.raise_prices.auto.price ∙ c.deref_mut.ensures.len) in
    let w2 : take c.self.inside.discount.len (c.raise_discounts.new.discount
    ++ drop (length c.raise_discounts.new.discount) c.self.inside.discount.items) ≡ c.raise_discounts.new.discount = written _ _ _
    (c.raise_discounts.auto.discount ∙ c.deref_mut-2.ensures.len) in
    rw (w, w2) (record {
      is_table = r.sized.is_table;
      names_length = r.sized.names_length;
      holders_length = r.sized.holders_length;
      price_length = length-set c.raise_prices.new.price s.named (c.index_mut-2.result.now + c.index-reach.result.now)
          ∙ c.raise_prices.auto.price ∙ ap (λ (xs : List ℕ). length xs) c.deref_mut.ensures.value ∙ r.sized.price_length;
      discount_length = c.raise_discounts.auto.discount ∙ ap (λ (xs : List ℕ). length xs) c.deref_mut-2.ensures.value ∙ r.sized.discount_length;
      rank_length = length-set s.rank c.args.pe c.args.rank ∙ r.sized.rank_length;
      distance_length = r.sized.distance_length;
      from_length = r.sized.from_length;
    })

pub returns-clause-matched : goal.returns-clause-matched
returns-clause-matched g c =
    let s : State = record {
      table = c.self.inside.table.now;
      named = c.self.inside.named;
      names = c.self.inside.names.items;
      holders = c.self.inside.holders.items;
      price = c.self.inside.price.items;
      discount = c.self.inside.discount.items;
      rank = c.self.inside.rank.items;
      distance = c.self.inside.distance.items;
      from = c.self.inside.from.items;
    } in
    let r : IsRaising c.args.rank s c.args.pe = raising c.args.rank s c.args.self.now c.args.pe c.self.view_is c.requires.sized
    c.requires.matched c.requires.tree c.requires.unnamed c.requires.nearest c.requires.free in
    let w : take c.self.inside.price.len (c.raise_prices.new.price
    ++ drop (length c.raise_prices.new.price) c.self.inside.price.items) ≡ c.raise_prices.new.price = written _ _ _
    (c.raise_prices.auto.price ∙ c.deref_mut.ensures.len) in
    let w2 : take c.self.inside.discount.len (c.raise_discounts.new.discount
    ++ drop (length c.raise_discounts.new.discount) c.self.inside.discount.items) ≡ c.raise_discounts.new.discount = written _ _ _
    (c.raise_discounts.auto.discount ∙ c.deref_mut-2.ensures.len) in
    rw (w, w2) (repriced_matched c.args.rank s c.args.pe
    (set c.raise_prices.new.price s.named (c.index_mut-2.result.now + c.index-reach.result.now)) c.raise_discounts.new.discount r.sized
    r.matched r.tree (repriced g c))

pub returns-clause-path : goal.returns-clause-path
returns-clause-path g c =
    let s : State = record {
      table = c.self.inside.table.now;
      named = c.self.inside.named;
      names = c.self.inside.names.items;
      holders = c.self.inside.holders.items;
      price = c.self.inside.price.items;
      discount = c.self.inside.discount.items;
      rank = c.self.inside.rank.items;
      distance = c.self.inside.distance.items;
      from = c.self.inside.from.items;
    } in
    let r : IsRaising c.args.rank s c.args.pe = raising c.args.rank s c.args.self.now c.args.pe c.self.view_is c.requires.sized
    c.requires.matched c.requires.tree c.requires.unnamed c.requires.nearest c.requires.free in
    let w : take c.self.inside.price.len (c.raise_prices.new.price
    ++ drop (length c.raise_prices.new.price) c.self.inside.price.items) ≡ c.raise_prices.new.price = written _ _ _
    (c.raise_prices.auto.price ∙ c.deref_mut.ensures.len) in
    let w2 : take c.self.inside.discount.len (c.raise_discounts.new.discount
    ++ drop (length c.raise_discounts.new.discount) c.self.inside.discount.items) ≡ c.raise_discounts.new.discount = written _ _ _
    (c.raise_discounts.auto.discount ∙ c.deref_mut-2.ensures.len) in
    rw (w, w2) (repriced_path c.args.rank s c.args.pe (set c.raise_prices.new.price s.named
    (c.index_mut-2.result.now + c.index-reach.result.now)) c.raise_discounts.new.discount r.sized r.matched r.tree (repriced g c))

pub returns-clause-scanned : goal.returns-clause-scanned
returns-clause-scanned g c =
    let s : State = record {
      table = c.self.inside.table.now;
      named = c.self.inside.named;
      names = c.self.inside.names.items;
      holders = c.self.inside.holders.items;
      price = c.self.inside.price.items;
      discount = c.self.inside.discount.items;
      rank = c.self.inside.rank.items;
      distance = c.self.inside.distance.items;
      from = c.self.inside.from.items;
    } in
    let r : IsRaising c.args.rank s c.args.pe = raising c.args.rank s c.args.self.now c.args.pe c.self.view_is c.requires.sized
    c.requires.matched c.requires.tree c.requires.unnamed c.requires.nearest c.requires.free in
    omega (arith, r.tree.some, get_or-set_same s.rank c.args.pe c.args.rank 0 r.in_rank)

pub returns-clause-table : goal.returns-clause-table
returns-clause-table g c =
    ap (λ (z : State). z.table) c.self.view_is

pub returns-clause-named : goal.returns-clause-named
returns-clause-named g c =
    ap (λ (z : State). z.named) c.self.view_is

pub returns-clause-holders : goal.returns-clause-holders
returns-clause-holders g c =
    ap (λ (z : State). z.holders) c.self.view_is
