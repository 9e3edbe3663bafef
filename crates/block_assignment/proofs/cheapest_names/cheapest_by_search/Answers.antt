use Rattle.std.proofs.Common.{◌≡◌, ℕ, ◌<◌, ◌≤◌, slice_index, arith, ◌∙◌, ap, subst, sym}
use Rattle.block_assignment.specs.declared.limits.TheConstants.MatrixLimits.{BYTES}
use Rattle.block_assignment.specs.Table.{Table, cost_at, greatest}
use Rattle.block_assignment.specs.Search.{State, IsSized, IsMatched, IsTight}
use Rattle.block_assignment.proofs.Prices.{greatest_small}
use Rattle.block_assignment.proofs.cheapest_names.cheapest_by_search.Goals as goal

-- a matching of all blocks is a naming at their prices
tight_if_all_named : (s : State) → IsSized s → IsMatched s → s.named ≡ s.table.blocks → IsTight s.table.blocks (cost_at s.table) s.price s.discount s.names
tight_if_all_named s sized matched all =
    record {
      naming = record {
        counted = sized.names_length;
        below = λ b h. matched.below b (omega (arith, h, all));
        apart = λ a b before h. matched.apart a b before (omega (arith, h, all));
      };
      low = matched.low;
      tight = λ b h. matched.tight b (omega (arith, h, all));
    }

pub returns-clause-tight : goal.returns-clause-tight
returns-clause-tight g c =
    let s : State = c.name_all.new.search in
    let table : s.table ≡ c.args.table.now = c.name_all.ensures.table ∙ c.in_ok-search.ensures.table in
    let same : s.table.blocks ≡ c.args.table.now.blocks = ap (λ (x : Table). x.blocks) table in
    let all : s.named ≡ s.table.blocks = omega (arith, same, c.name_all.ensures.named, c.blocks-blocks.ensures.value) in
    rw (c.into_parts.ensures.price, c.into_parts.ensures.discount, c.into_parts.ensures.names)
    (subst (λ t. IsTight t.blocks (cost_at t) s.price s.discount s.names) table
    (tight_if_all_named s c.name_all.ensures.sized c.name_all.ensures.matched all))

pub returns-clause-price : goal.returns-clause-price
returns-clause-price g c =
    rw c.into_parts.ensures.price (c.name_all.ensures.sized.price_length ∙ ap (λ (x : Table). x.blocks) (c.name_all.ensures.table ∙ c.in_ok-search.ensures.table))

pub returns-clause-discounts : goal.returns-clause-discounts
returns-clause-discounts g c =
    rw c.into_parts.ensures.discount (c.name_all.ensures.sized.discount_length ∙ ap (λ (x : Table). x.blocks) (c.name_all.ensures.table ∙ c.in_ok-search.ensures.table))

pub returns-clause-prices_small : goal.returns-clause-prices_small
returns-clause-prices_small g c =
    let s : State = c.name_all.new.search in
    rw c.into_parts.ensures.price (subst (λ (t : Table). (b : ℕ) → b < t.blocks → slice_index s.price b ≤ greatest t.costs)
    (c.name_all.ensures.table ∙ c.in_ok-search.ensures.table) c.name_all.ensures.small.price)

pub returns-clause-discounts_small : goal.returns-clause-discounts_small
returns-clause-discounts_small g c =
    let s : State = c.name_all.new.search in
    rw c.into_parts.ensures.discount (subst (λ (t : Table). (p : ℕ) → p < t.blocks → slice_index s.discount p ≤ greatest t.costs)
    (c.name_all.ensures.table ∙ c.in_ok-search.ensures.table) c.name_all.ensures.small.discount)

pub returns-clause-costs_small : goal.returns-clause-costs_small
returns-clause-costs_small g c = greatest_small c.args.table.now.costs BYTES c.blocks-blocks.ensures.within_limits.small

pub name_all-requires-clause-sized : goal.name_all-requires-clause-sized
name_all-requires-clause-sized g c = c.in_ok-search.ensures.sized

pub name_all-requires-clause-matched : goal.name_all-requires-clause-matched
name_all-requires-clause-matched g c = c.in_ok-search.ensures.matched

pub name_all-requires-clause-small : goal.name_all-requires-clause-small
name_all-requires-clause-small g c = c.in_ok-search.ensures.small

pub name_all-requires-clause-blocks : goal.name_all-requires-clause-blocks
name_all-requires-clause-blocks g c = c.blocks-blocks.ensures.value ∙ ap (λ (x : Table). x.blocks) (sym c.in_ok-search.ensures.table)

pub name_all-requires-clause-room : goal.name_all-requires-clause-room
name_all-requires-clause-room g c = omega (arith, c.requires.room, c.blocks-blocks.ensures.value)
