use Rattle.std.proofs.Common.{◌≡◌, ℕ, ◌+◌, ◌<◌, ◌++◌, List, length, take, drop, arith, ap, ◌∙◌, subst}
use Rattle.block_assignment.specs.declared.limits.TheConstants.MatrixLimits.{BYTES}
use Rattle.block_assignment.specs.Table.{Table, cost_at}
use Rattle.block_assignment.specs.Search.{IsTight}
use Rattle.block_assignment.specs.Discounted.{IsSettled}
use Rattle.block_assignment.proofs.Prices.{greatest_small}
use Rattle.block_assignment.proofs.Settlings.{IsFoundBy, high_enough, settled_tight, settled_price_small, settled_discount_small, start_small}
use Rattle.block_assignment.proofs.Trees.{written}
use Rattle.block_assignment.proofs.cheapest_names.cheapest_by_auction.Goals as goal

pub settle-requires-clause-small : goal.settle-requires-clause-small
settle-requires-clause-small g c =
    let t : Table = c.args.table.now in
    let start : List ℕ = c.in_ok-start.start.items in
    let costs : List ℕ = c.in_ok-costs.costs.items in
    let names : List ℕ = c.in_ok-names.names.items in
    let price : List ℕ = c.in_ok-names.price.items in
    let discount : List ℕ = c.in_ok-names.discount.items in
    let made : c.new.result ≡ record { blocks = t.blocks; costs = costs } = c.new.ensures.value
    ∙ ap (λ (n : ℕ). record { blocks = n; costs = c.deref-2.result.now }) c.blocks-2.ensures.value
    ∙ ap (λ (xs : List ℕ). record { blocks = t.blocks; costs = xs }) c.deref-2.ensures.value in
    let same : c.new.result.blocks ≡ t.blocks = ap (λ (z : Table). z.blocks) made in
    rw (c.deref-3.ensures.value, c.deref_mut-2.ensures.value) (λ p inside.
    let within : p < t.blocks = omega (arith, inside, c.in_ok-names.ensures.discounts, same) in
    omega (
      arith,
      start_small t start c.blocks-2.ensures.within_limits c.in_ok-start.ensures.small p within,
      c.in_ok-names.ensures.discounts_small p (omega (arith, within, same)),
      c.in_ok-names.ensures.costs_small,
    ))

pub settle-requires-clause-high : goal.settle-requires-clause-high
settle-requires-clause-high g c =
    let t : Table = c.args.table.now in
    let start : List ℕ = c.in_ok-start.start.items in
    let costs : List ℕ = c.in_ok-costs.costs.items in
    let names : List ℕ = c.in_ok-names.names.items in
    let price : List ℕ = c.in_ok-names.price.items in
    let discount : List ℕ = c.in_ok-names.discount.items in
    let made : c.new.result ≡ record { blocks = t.blocks; costs = costs } = c.new.ensures.value
    ∙ ap (λ (n : ℕ). record { blocks = n; costs = c.deref-2.result.now }) c.blocks-2.ensures.value
    ∙ ap (λ (xs : List ℕ). record { blocks = t.blocks; costs = xs }) c.deref-2.ensures.value in
    let same : c.new.result.blocks ≡ t.blocks = ap (λ (z : Table). z.blocks) made in
    let found : IsFoundBy t start costs price discount names = record {
      exact = (let h = rw c.deref.ensures.value at c.in_ok-costs.ensures.exact in h);
      prices = c.in_ok-names.ensures.price ∙ same;
      discounts = c.in_ok-names.ensures.discounts ∙ same;
      tight = subst (λ (z : Table). IsTight z.blocks (cost_at z) price discount names) made c.in_ok-names.ensures.tight;
    } in
    rw (c.deref-3.ensures.value, c.deref_mut.ensures.value, c.deref_mut-2.ensures.value) (high_enough t start costs price discount names found)

pub returns-clause-tight : goal.returns-clause-tight
returns-clause-tight g c =
    let t : Table = c.args.table.now in
    let start : List ℕ = c.in_ok-start.start.items in
    let costs : List ℕ = c.in_ok-costs.costs.items in
    let names : List ℕ = c.in_ok-names.names.items in
    let price : List ℕ = c.in_ok-names.price.items in
    let discount : List ℕ = c.in_ok-names.discount.items in
    let made : c.new.result ≡ record { blocks = t.blocks; costs = costs } = c.new.ensures.value
    ∙ ap (λ (n : ℕ). record { blocks = n; costs = c.deref-2.result.now }) c.blocks-2.ensures.value
    ∙ ap (λ (xs : List ℕ). record { blocks = t.blocks; costs = xs }) c.deref-2.ensures.value in
    let same : c.new.result.blocks ≡ t.blocks = ap (λ (z : Table). z.blocks) made in
    let found : IsFoundBy t start costs price discount names = record {
      exact = (let h = rw c.deref.ensures.value at c.in_ok-costs.ensures.exact in h);
      prices = c.in_ok-names.ensures.price ∙ same;
      discounts = c.in_ok-names.ensures.discounts ∙ same;
      tight = subst (λ (z : Table). IsTight z.blocks (cost_at z) price discount names) made c.in_ok-names.ensures.tight;
    } in
    let w : take c.in_ok-names.price.len (c.settle.new.price ++ drop (length c.settle.new.price) price) ≡ c.settle.new.price = written _ _ _
    (c.settle.auto.price ∙ c.deref_mut.ensures.len) in
    let w2 : take c.in_ok-names.discount.len (c.settle.new.discount
    ++ drop (length c.settle.new.discount) discount) ≡ c.settle.new.discount = written _ _ _ (c.settle.auto.discount ∙ c.deref_mut-2.ensures.len) in
    let settled : IsSettled start price discount c.settle.new.price
    c.settle.new.discount = (let h = rw (c.deref-3.ensures.value, c.deref_mut.ensures.value, c.deref_mut-2.ensures.value) at
    c.settle.ensures.settled in h) in
    rw (w, w2) (settled_tight t start costs price discount names c.settle.new.price c.settle.new.discount found settled)

pub returns-clause-prices_small : goal.returns-clause-prices_small
returns-clause-prices_small g c =
    let t : Table = c.args.table.now in
    let start : List ℕ = c.in_ok-start.start.items in
    let costs : List ℕ = c.in_ok-costs.costs.items in
    let names : List ℕ = c.in_ok-names.names.items in
    let price : List ℕ = c.in_ok-names.price.items in
    let discount : List ℕ = c.in_ok-names.discount.items in
    let made : c.new.result ≡ record { blocks = t.blocks; costs = costs } = c.new.ensures.value
    ∙ ap (λ (n : ℕ). record { blocks = n; costs = c.deref-2.result.now }) c.blocks-2.ensures.value
    ∙ ap (λ (xs : List ℕ). record { blocks = t.blocks; costs = xs }) c.deref-2.ensures.value in
    let same : c.new.result.blocks ≡ t.blocks = ap (λ (z : Table). z.blocks) made in
    let found : IsFoundBy t start costs price discount names = record {
      exact = (let h = rw c.deref.ensures.value at c.in_ok-costs.ensures.exact in h);
      prices = c.in_ok-names.ensures.price ∙ same;
      discounts = c.in_ok-names.ensures.discounts ∙ same;
      tight = subst (λ (z : Table). IsTight z.blocks (cost_at z) price discount names) made c.in_ok-names.ensures.tight;
    } in
    let w : take c.in_ok-names.price.len (c.settle.new.price ++ drop (length c.settle.new.price) price) ≡ c.settle.new.price = written _ _ _
    (c.settle.auto.price ∙ c.deref_mut.ensures.len) in
    let w2 : take c.in_ok-names.discount.len (c.settle.new.discount
    ++ drop (length c.settle.new.discount) discount) ≡ c.settle.new.discount = written _ _ _ (c.settle.auto.discount ∙ c.deref_mut-2.ensures.len) in
    let settled : IsSettled start price discount c.settle.new.price
    c.settle.new.discount = (let h = rw (c.deref-3.ensures.value, c.deref_mut.ensures.value, c.deref_mut-2.ensures.value) at
    c.settle.ensures.settled in h) in
    rw w (settled_price_small t start costs price discount names c.settle.new.price c.settle.new.discount c.blocks-2.ensures.within_limits found settled)

pub returns-clause-discounts_small : goal.returns-clause-discounts_small
returns-clause-discounts_small g c =
    let t : Table = c.args.table.now in
    let start : List ℕ = c.in_ok-start.start.items in
    let costs : List ℕ = c.in_ok-costs.costs.items in
    let names : List ℕ = c.in_ok-names.names.items in
    let price : List ℕ = c.in_ok-names.price.items in
    let discount : List ℕ = c.in_ok-names.discount.items in
    let made : c.new.result ≡ record { blocks = t.blocks; costs = costs } = c.new.ensures.value
    ∙ ap (λ (n : ℕ). record { blocks = n; costs = c.deref-2.result.now }) c.blocks-2.ensures.value
    ∙ ap (λ (xs : List ℕ). record { blocks = t.blocks; costs = xs }) c.deref-2.ensures.value in
    let same : c.new.result.blocks ≡ t.blocks = ap (λ (z : Table). z.blocks) made in
    let found : IsFoundBy t start costs price discount names = record {
      exact = (let h = rw c.deref.ensures.value at c.in_ok-costs.ensures.exact in h);
      prices = c.in_ok-names.ensures.price ∙ same;
      discounts = c.in_ok-names.ensures.discounts ∙ same;
      tight = subst (λ (z : Table). IsTight z.blocks (cost_at z) price discount names) made c.in_ok-names.ensures.tight;
    } in
    let w : take c.in_ok-names.price.len (c.settle.new.price ++ drop (length c.settle.new.price) price) ≡ c.settle.new.price = written _ _ _
    (c.settle.auto.price ∙ c.deref_mut.ensures.len) in
    let w2 : take c.in_ok-names.discount.len (c.settle.new.discount
    ++ drop (length c.settle.new.discount) discount) ≡ c.settle.new.discount = written _ _ _ (c.settle.auto.discount ∙ c.deref_mut-2.ensures.len) in
    let settled : IsSettled start price discount c.settle.new.price
    c.settle.new.discount = (let h = rw (c.deref-3.ensures.value, c.deref_mut.ensures.value, c.deref_mut-2.ensures.value) at
    c.settle.ensures.settled in h) in
    rw w2 (settled_discount_small t start costs price discount names c.settle.new.price c.settle.new.discount c.blocks-2.ensures.within_limits found settled)

pub returns-clause-costs_small : goal.returns-clause-costs_small
returns-clause-costs_small g c =
    greatest_small c.args.table.now.costs BYTES c.blocks-2.ensures.within_limits.small
