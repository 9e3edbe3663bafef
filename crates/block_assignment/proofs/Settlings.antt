-- Prices and discounts that were found by costs with discounts added, as those of the costs.
use Rattle.std.proofs.Common.{◌≡◌, ℕ, ◌+◌, ◌*◌, ◌<◌, ◌≤◌, inl, inr, List, length, set, slice_index, arith, ap, ◌∙◌, subst}
use Rattle.std.proofs.lemmas.Bool.{cases_eq}
use Rattle.std.proofs.lemmas.List.{get_or-set_same, get_or-set_other, length-set}
use Rattle.block_assignment.specs.declared.limits.TheConstants.MatrixLimits.{BYTES}
use Rattle.block_assignment.specs.Table.{Table, IsMatrix, cost_at, greatest}
use Rattle.block_assignment.specs.Discounted.{discounted_cost, ArePes, IsSettled}
use Rattle.block_assignment.specs.Search.{IsTight}
use Rattle.block_assignment.proofs.Namings.{held}
use Rattle.block_assignment.proofs.Prices.{cost_bounded}

-- a naming with its prices and discounts, found by these costs, which are those of the table with the discounts of the start
pub record IsFoundBy (t : Table) (start costs price discount names : List ℕ) : Type 0 where
  pub exact : (b p : ℕ) → b < t.blocks → p < t.blocks → slice_index costs (b * t.blocks + p) ≡ discounted_cost t start b p
  pub prices : length price ≡ t.blocks
  pub discounts : length discount ≡ t.blocks
  pub tight : IsTight t.blocks (λ b p. slice_index costs (b * t.blocks + p)) price discount names

-- no price is below the discount of the block's PE
pub high_enough : (t : Table) (start costs price discount names : List ℕ) → IsFoundBy t start costs price discount names → (b : ℕ)
    → b < length price → (p : ℕ) × (p < length discount) × (slice_index start p + slice_index discount p ≤ slice_index price b)
high_enough t start costs price discount names found b inside =
    let block : b < t.blocks = omega (arith, inside, found.prices) in
    let p : ℕ = slice_index names b in
    let below : p < t.blocks = found.tight.naming.below b block in
    (p, omega (arith, below, found.discounts), omega (arith, found.tight.tight b block, found.exact b p block below))

pub settled_tight : (t : Table) (start costs price discount names settled_price settled_discount : List ℕ)
    → IsFoundBy t start costs price discount names → IsSettled start price discount settled_price settled_discount
    → IsTight t.blocks (cost_at t) settled_price settled_discount names
settled_tight t start costs price discount names settled_price settled_discount found settled =
    record {
      naming = found.tight.naming;
      low = λ b p block pe. omega (
        arith,
        found.tight.low b p block pe,
        found.exact b p block pe,
        settled.prices b (omega (arith, block, found.prices)),
        settled.discounts p (omega (arith, pe, found.discounts)),
      );
      tight = λ b block.
          let p : ℕ = slice_index names b in
          let below : p < t.blocks = found.tight.naming.below b block in
          omega (
            arith,
            found.tight.tight b block,
            found.exact b p block below,
            settled.prices b (omega (arith, block, found.prices)),
            settled.discounts p (omega (arith, below, found.discounts)),
          );
    }

-- one PE has no discount, so no price is above the greatest cost
pub settled_price_small : (t : Table) (start costs price discount names settled_price settled_discount : List ℕ) → IsMatrix t
    → IsFoundBy t start costs price discount names → IsSettled start price discount settled_price settled_discount → (b : ℕ) → b < t.blocks
    → slice_index settled_price b ≤ greatest t.costs
settled_price_small t start costs price discount names settled_price settled_discount matrix found settled b block =
    let tight = settled_tight t start costs price discount names settled_price settled_discount found settled in
    let inside : settled.at < t.blocks = omega (arith, settled.inside, found.discounts) in
    omega (arith, tight.low b settled.at block inside, settled.discounts settled.at settled.inside, settled.reached, cost_bounded t b settled.at matrix block inside)

-- and then no discount is
pub settled_discount_small : (t : Table) (start costs price discount names settled_price settled_discount : List ℕ) → IsMatrix t
    → IsFoundBy t start costs price discount names → IsSettled start price discount settled_price settled_discount → (p : ℕ) → p < t.blocks
    → slice_index settled_discount p ≤ greatest t.costs
settled_discount_small t start costs price discount names settled_price settled_discount matrix found settled p inside =
    let tight = settled_tight t start costs price discount names settled_price settled_discount found settled in
    let h = held t.blocks names p found.tight.naming inside in
    let is : slice_index settled_price h.0 ≡ cost_at t h.0 p + slice_index settled_discount p = subst
    (λ q. slice_index settled_price h.0 ≡ cost_at t h.0 q + slice_index settled_discount q) h.2 (tight.tight h.0 h.1) in
    omega (arith, is, settled_price_small t start costs price discount names settled_price settled_discount matrix found settled h.0 h.1)

-- and sums of discounts are far below 2^64
pub start_small : (t : Table) (start : List ℕ) → IsMatrix t
    → ((b p : ℕ) → b < t.blocks → p < t.blocks → discounted_cost t start b p ≤ BYTES) → (p : ℕ) → p < t.blocks → slice_index start p ≤ BYTES
start_small t start matrix small p inside = omega (arith, small 0 p (omega (arith, matrix.some_block)) inside)

-- PEs for blocks, one of them another
pub pes_set : (blocks : ℕ) (pes : List ℕ) (b pe : ℕ) → ArePes blocks pes → pe < blocks → ArePes blocks (set pes b pe)
pes_set blocks pes b pe are inside =
    record {
      counted = length-set pes b pe ∙ are.counted;
      below = λ k block. elim (cases_eq k b) [
        | inl here ↦
            let at : b < length pes = omega (arith, block, here, are.counted) in
            omega (arith, inside, ap (λ q. slice_index (set pes b pe) q) here, get_or-set_same pes b pe 0 at)
        | inr other ↦ omega (arith, get_or-set_other pes b k pe 0 other, are.below k block)
      ];
    }
