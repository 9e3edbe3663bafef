-- Names of the blocks of a table.
use Rattle.std.proofs.Common.{◌≡◌, ◌∙◌, ℕ, ◌+◌, ◌*◌, ◌/◌, ◌%◌, ◌<◌, ◌≤◌, List, ℤ, length, slice_index, arith, ap, subst, sym}
use Rattle.std.proofs.Math.Nat.{mod-add-div, mod-lt, div-lt_iff_lt-mul}
use Rattle.std.proofs.lemmas.Int.{ints}
use Rattle.std.proofs.lemmas.List.{get_or_default}
use Rattle.std.proofs.lemmas.List.Elements.{All-weaker}
use Rattle.std.specs.Prelude.{pos, neg_ℤ, ◌+ℤ◌, ◌≤ℤ◌}
use Rattle.block_assignment.specs.Held.{HasHeldCosts}
use Rattle.block_assignment.specs.Table.{Table, AreWithin, IsMatrix, cost_at, greatest}
use Rattle.block_assignment.proofs.Prices.{greatest_small}
use Rattle.lb_certificates.specs.Held.{held_cost, held_moved, IsHeld}
use Rattle.lb_certificates.specs.Naming.{bytes_moved, naming_cost, price_at, IsFirstCheapest, IsLeastNaming, IsNaming, Proves}
use Rattle.lb_certificates.proofs.HeldTables.{moved_by_table}
use Rattle.lb_certificates.proofs.LeastNamings.{least_by}
use Rattle.lb_certificates.proofs.Totals.{total_same}

-- what a naming costs by the matrix of a table is what it moves by the table
cost_of_held : (blocks : ℕ) (held names : List ℕ) (t : Table) → HasHeldCosts blocks held t → IsNaming blocks names
    → naming_cost blocks (cost_at t) names ≡ held_moved blocks held names
cost_of_held blocks held names t costs naming =
    total_same blocks (λ b. cost_at t b (slice_index names b)) (λ b. held_cost blocks held b (slice_index names b))
    (λ b inside. costs.exact b (slice_index names b) inside (naming.below b inside))

pub least_of_held : (blocks : ℕ) (held names : List ℕ) (t : Table) → HasHeldCosts blocks held t
    → IsFirstCheapest t.blocks (naming_cost t.blocks (cost_at t)) names → IsFirstCheapest blocks (held_moved blocks held) names
least_of_held blocks held names t costs least =
    least_by blocks (held_moved blocks held) (naming_cost blocks (cost_at t)) names
    (λ others naming. cost_of_held blocks held others t costs naming) (subst (λ n. IsFirstCheapest n (naming_cost n (cost_at t)) names) costs.counted least)

pub moved_of_held : (blocks : ℕ) (held names : List ℕ) (t : Table) (moved : ℕ) → HasHeldCosts blocks held t → IsNaming t.blocks names
    → moved ≡ naming_cost t.blocks (cost_at t) names → moved ≡ held_moved blocks held names
moved_of_held blocks held names t moved costs naming cost_is =
    let by_blocks : moved ≡ naming_cost blocks (cost_at t) names = subst (λ n. moved ≡ naming_cost n (cost_at t) names) costs.counted cost_is in
    by_blocks ∙ cost_of_held blocks held names t costs (subst (λ n. IsNaming n names) costs.counted naming)

pub proves_of_held : (blocks : ℕ) (held names : List ℕ) (t : Table) (moved : ℕ) (u v : List ℤ) → HasHeldCosts blocks held t
    → IsNaming t.blocks names → moved ≡ naming_cost t.blocks (cost_at t) names
    → Proves t.blocks (cost_at t) (naming_cost t.blocks (cost_at t) names) u v → Proves blocks (held_cost blocks held) moved u v
proves_of_held blocks held names t moved u v costs naming cost_is proves =
    let by_moved : Proves t.blocks (cost_at t) moved u v = subst (λ n. Proves t.blocks (cost_at t) n u v) (sym cost_is) proves in
    let by_blocks : Proves blocks (cost_at t) moved u v = subst (λ n. Proves n (cost_at t) moved u v) costs.counted by_moved in
    record {
      block_prices = by_blocks.block_prices;
      pe_prices = by_blocks.pe_prices;
      low = λ b p block pe. subst (λ n. (price_at u b +ℤ price_at v p) ≤ℤ pos n) (costs.exact b p block pe) (by_blocks.low b p block pe);
      adds_up = by_blocks.adds_up;
    }

-- the cost at a place of the table is that of a block on a PE
cost_at_place : (t : Table) (i : ℕ) → 0 < t.blocks → cost_at t (i / t.blocks) (i % t.blocks) ≡ slice_index t.costs i
cost_at_place t i some = ap (slice_index t.costs) (omega (arith, mod-add-div i t.blocks))

-- where no block costs more than so much on any PE, no price goes further
pub bounded_of_held : (blocks : ℕ) (held : List ℕ) (t : Table) (u v : List ℤ) → HasHeldCosts blocks held t → IsMatrix t
    → AreWithin (greatest t.costs) u v → (most : ℕ) → ((b p : ℕ) → b < blocks → p < blocks → held_cost blocks held b p ≤ most) → AreWithin most u v
bounded_of_held blocks held t u v costs matrix within most small =
    record {
      block_prices = All-weaker (λ price. (pos 0 ≤ℤ price) × (price ≤ℤ pos (greatest t.costs)))
          (λ price. (pos 0 ≤ℤ price) × (price ≤ℤ pos most)) (λ price h. (h.0, omega (arith, ints, h.1, less))) u within.block_prices;
      pe_prices = All-weaker (λ price. (neg_ℤ (pos (greatest t.costs)) ≤ℤ price) × (price ≤ℤ pos 0))
          (λ price. (neg_ℤ (pos most) ≤ℤ price) × (price ≤ℤ pos 0)) (λ price h. (omega (arith, ints, h.0, less), h.1)) v within.pe_prices;
    }
  where
    some : 0 < t.blocks
    some = omega (arith, matrix.some_block)

    less : greatest t.costs ≤ most
    less = greatest_small t.costs most (λ i d inside.
        let block : i / t.blocks < t.blocks = (div-lt_iff_lt-mul some).1 (omega (arith, inside, matrix.square)) in
        let pe : i % t.blocks < t.blocks = mod-lt i some in
        let entry : slice_index t.costs i ≡ held_cost blocks held (i / t.blocks) (i % t.blocks) = sym (cost_at_place t i some)
        ∙ costs.exact (i / t.blocks) (i % t.blocks) (subst (λ n. i / t.blocks < n) costs.counted block) (subst (λ n. i % t.blocks < n) costs.counted pe) in
        omega (
          arith,
          get_or_default t.costs i d 0 inside,
          entry,
          small (i / t.blocks) (i % t.blocks) (subst (λ n. i / t.blocks < n) costs.counted block) (subst (λ n. i % t.blocks < n) costs.counted pe),
        ))

-- by the table of elements and cuts
pub least_of_blocks : (blocks : ℕ) (sizes : List (ℕ × ℕ)) (cuts held names : List ℕ) → length held ≡ blocks * blocks
    → IsHeld blocks sizes cuts held → IsFirstCheapest blocks (held_moved blocks held) names → IsLeastNaming sizes cuts blocks names
least_of_blocks blocks sizes cuts held names square table least =
    least_by blocks (bytes_moved sizes cuts) (held_moved blocks held) names (λ others naming. moved_by_table blocks sizes cuts held others square table naming) least

pub moved_of_blocks : (blocks : ℕ) (sizes : List (ℕ × ℕ)) (cuts held names : List ℕ) (moved : ℕ) → length held ≡ blocks * blocks
    → IsHeld blocks sizes cuts held → IsNaming blocks names → moved ≡ held_moved blocks held names → moved ≡ bytes_moved sizes cuts names
moved_of_blocks blocks sizes cuts held names moved square table naming moved_is =
    moved_is ∙ moved_by_table blocks sizes cuts held names square table naming
