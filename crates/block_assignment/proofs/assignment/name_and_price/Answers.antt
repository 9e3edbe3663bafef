use Rattle.std.proofs.Common.{◌≡◌, ℕ, ◌<◌, ◌++◌, List, length, take, drop, slice_index, arith, sym, ◌∙◌, pos, neg_ℤ}
use Rattle.lb_certificates.specs.Naming.{price_at}
use Rattle.block_assignment.specs.Table.{cost_at, greatest}
use Rattle.block_assignment.specs.Search.{IsTight}
use Rattle.block_assignment.proofs.Trees.{written}
use Rattle.block_assignment.proofs.Duality.{found}
use Rattle.block_assignment.proofs.Prices.{prices_within}
use Rattle.block_assignment.proofs.assignment.name_and_price.Goals as goal

pub write_block_prices-requires-clause-small : goal.write_block_prices-requires-clause-small
write_block_prices-requires-clause-small g c =
    let made = c.in_ok-names.ensures in
    rw c.deref.ensures.value (λ b inside. omega (arith, made.costs_small, made.prices_small b (omega (arith, inside, made.price))))

pub write_pe_prices-requires-clause-small : goal.write_pe_prices-requires-clause-small
write_pe_prices-requires-clause-small g c =
    let made = c.in_ok-names.ensures in
    rw c.deref-2.ensures.value (λ p inside. omega (arith, made.costs_small, made.discounts_small p (omega (arith, inside, made.discounts))))

pub rename-renamed-requires-clause-small : goal.rename-renamed-requires-clause-small
rename-renamed-requires-clause-small g c =
    let made = c.in_ok-names.ensures in
    rw c.deref-4.ensures.value (λ p inside. omega (arith, made.costs_small, made.discounts_small p (omega (arith, inside, made.discounts))))

pub rename-renamed-requires-clause-tight : goal.rename-renamed-requires-clause-tight
rename-renamed-requires-clause-tight g c =
    rw (c.deref-3.ensures.value, c.deref-4.ensures.value, c.deref_mut-3.ensures.value) c.in_ok-names.ensures.tight

pub returns-clause-proved : goal.returns-clause-proved
returns-clause-proved g c =
    let blocks : ℕ = c.args.table.now.blocks in
    let cost : ℕ → ℕ → ℕ = cost_at c.args.table.now in
    let price : List ℕ = c.in_ok-names.price.items in
    let discount : List ℕ = c.in_ok-names.discount.items in
    let made = c.in_ok-names.ensures in
    let w : take c.in_ok-names.names.len (c.rename-renamed.new.names
    ++ drop (length c.rename-renamed.new.names) c.in_ok-names.names.items) ≡ c.rename-renamed.new.names = written _ _ _
    (omega (arith, c.rename-renamed.auto.names, c.deref_mut-3.ensures.len)) in
    let tight : IsTight blocks cost price discount c.rename-renamed.new.names = (let h = rw
    (c.deref-3.ensures.value, c.deref-4.ensures.value) at c.in_ok-renamed.ensures.tight in h) in
    let u_is : (b : ℕ) → b < blocks → price_at c.write_block_prices.new.prices b ≡ pos (slice_index price b) = λ b
    inside. (let h = rw c.deref.ensures.value at c.write_block_prices.ensures in h b (omega (arith, inside, made.price))) in
    let v_is : (p : ℕ) → p < blocks → price_at c.write_pe_prices.new.prices p ≡ neg_ℤ (pos (slice_index discount p)) = λ p
    inside. (let h = rw c.deref-2.ensures.value at c.write_pe_prices.ensures in h p (omega (arith, inside, made.discounts))) in
    rw w (found blocks cost price discount c.rename-renamed.new.names c.write_block_prices.new.prices c.write_pe_prices.new.prices tight
    (omega (arith, c.write_block_prices.auto.prices, c.requires.blocks)) (omega (arith, c.write_pe_prices.auto.prices, c.requires.pes)) u_is v_is)

pub returns-clause-bounded : goal.returns-clause-bounded
returns-clause-bounded g c =
    let blocks : ℕ = c.args.table.now.blocks in
    let price : List ℕ = c.in_ok-names.price.items in
    let discount : List ℕ = c.in_ok-names.discount.items in
    let made = c.in_ok-names.ensures in
    let u_is : (b : ℕ) → b < blocks → price_at c.write_block_prices.new.prices b ≡ pos (slice_index price b) = λ b
    inside. (let h = rw c.deref.ensures.value at c.write_block_prices.ensures in h b (omega (arith, inside, made.price))) in
    let v_is : (p : ℕ) → p < blocks → price_at c.write_pe_prices.new.prices p ≡ neg_ℤ (pos (slice_index discount p)) = λ p
    inside. (let h = rw c.deref-2.ensures.value at c.write_pe_prices.ensures in h p (omega (arith, inside, made.discounts))) in
    prices_within blocks (greatest c.args.table.now.costs) c.write_block_prices.new.prices c.write_pe_prices.new.prices price discount
    (omega (arith, c.write_block_prices.auto.prices, c.requires.blocks)) (omega (arith, c.write_pe_prices.auto.prices, c.requires.pes))
    u_is v_is made.prices_small made.discounts_small

pub write_block_prices-requires-clause-counted : goal.write_block_prices-requires-clause-counted
write_block_prices-requires-clause-counted g c = rw c.deref.ensures.value (c.requires.blocks ∙ sym c.in_ok-names.ensures.price)

pub write_pe_prices-requires-clause-counted : goal.write_pe_prices-requires-clause-counted
write_pe_prices-requires-clause-counted g c = rw c.deref-2.ensures.value (c.requires.pes ∙ sym c.in_ok-names.ensures.discounts)

pub rename-renamed-requires-clause-price : goal.rename-renamed-requires-clause-price
rename-renamed-requires-clause-price g c = rw c.deref-3.ensures.value c.in_ok-names.ensures.price

pub rename-renamed-requires-clause-discounts : goal.rename-renamed-requires-clause-discounts
rename-renamed-requires-clause-discounts g c = rw c.deref-4.ensures.value c.in_ok-names.ensures.discounts

pub returns-clause-naming : goal.returns-clause-naming
returns-clause-naming g c =
    let w : take c.in_ok-names.names.len (c.rename-renamed.new.names
    ++ drop (length c.rename-renamed.new.names) c.in_ok-names.names.items) ≡ c.rename-renamed.new.names = written _ _ _
    (omega (arith, c.rename-renamed.auto.names, c.deref_mut-3.ensures.len)) in
    rw w c.in_ok-renamed.ensures.tight.naming

pub returns-clause-least_naming : goal.returns-clause-least_naming
returns-clause-least_naming g c =
    let w : take c.in_ok-names.names.len (c.rename-renamed.new.names
    ++ drop (length c.rename-renamed.new.names) c.in_ok-names.names.items) ≡ c.rename-renamed.new.names = written _ _ _
    (omega (arith, c.rename-renamed.auto.names, c.deref_mut-3.ensures.len)) in
    rw w c.in_ok-renamed.ensures.least_naming

pub cheapest-requires : goal.cheapest-requires
cheapest-requires g c = record { room = omega (arith, c.deref_mut.ensures.len, c.in_ok-room.ensures.len, c.blocks-blocks.ensures.value) }

pub rename-renamed-requires-clause-next : goal.rename-renamed-requires-clause-next
rename-renamed-requires-clause-next g c =
    let w : length c.cheapest.new.to_scan ≡ c.args.table.now.blocks = omega
    (arith, c.cheapest.auto.to_scan, c.deref_mut.ensures.len, c.in_ok-room.ensures.len, c.blocks-blocks.ensures.value) in
    omega (arith, w, c.deref_mut-2.ensures.len)
