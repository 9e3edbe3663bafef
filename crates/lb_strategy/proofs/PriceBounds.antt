-- Prices that the table of the blocks bounds are bounded by the costs of the blocks.
use Rattle.std.proofs.Common.{◌≡◌, ◌∙◌, ℕ, suc, ◌*◌, ◌/◌, ◌%◌, ◌<◌, ◌≤◌, inl, inr, List, [], ◌∷◌, length, slice_index, ℤ, arith, ap, sym, subst}
use Rattle.std.proofs.lemmas.Bool.{cases_lt}
use Rattle.std.proofs.Math.Nat.{mod-add-div, mod-lt, mul-pos, div-lt_iff_lt-mul}
use Rattle.lb_certificates.specs.Naming.{block_cost}
use Rattle.block_assignment.specs.Table.{Table, AreWithin, IsTable, IsTableOf, cost_at, greatest}
use Rattle.block_assignment.proofs.Prices.{cost_bounded}
use Rattle.block_assignment.proofs.Sums.{matrix_of_table}
use Rattle.lb_strategy.specs.Decisions.{IsGreatestCost, ArePricesBounded}

-- the greatest of some costs is one of them
greatest_at : (costs : List ℕ) → 0 < length costs → (i : ℕ) × (i < length costs) × (slice_index costs i ≡ greatest costs)
greatest_at [] some = absurd (omega (arith, some))
greatest_at (c ∷ []) some = (0, omega arith, omega arith)
greatest_at (c ∷ d ∷ costs) some = elim (cases_lt c (greatest (d ∷ costs))) [
  | inl less ↦
      let later = greatest_at (d ∷ costs) (omega arith) in
      (suc later.0, omega (arith, later.1), later.2 ∙ omega (arith, less))
  | inr least ↦ (0, omega arith, omega (arith, least))
]

-- the entry at a place of the table is the cost of a block on a PE
entry : (t : Table) (i : ℕ) → 0 < t.blocks → cost_at t (i / t.blocks) (i % t.blocks) ≡ slice_index t.costs i
entry t i some = ap (slice_index t.costs) (omega (arith, mod-add-div i t.blocks))

-- the greatest entry of the table is the greatest cost
greatest_cost : (sizes : List (ℕ × ℕ)) (cuts : List ℕ) (t : Table) → IsTable t → IsTableOf sizes cuts t → IsGreatestCost t.blocks (block_cost sizes cuts) (greatest t.costs)
greatest_cost sizes cuts t table exact =
    let some : 0 < t.blocks = omega (arith, table.some_block) in
    let entries : 0 < t.blocks * t.blocks = mul-pos some some in
    let at = greatest_at t.costs (omega (arith, table.square, entries)) in
    let block : at.0 / t.blocks < t.blocks = (div-lt_iff_lt-mul some).1 (omega (arith, at.1, table.square)) in
    let pe : at.0 % t.blocks < t.blocks = mod-lt at.0 some in
    record {
      block = at.0 / t.blocks;
      pe = at.0 % t.blocks;
      block_inside = block;
      pe_inside = pe;
      reached = sym (exact.exact (at.0 / t.blocks) (at.0 % t.blocks) block pe) ∙ entry t at.0 some ∙ at.2;
      greatest = λ b p inside below. subst (λ cost. cost ≤ greatest t.costs) (exact.exact b p inside below) (cost_bounded t b p (matrix_of_table t table) inside below);
    }

pub bounded_by_table : (sizes : List (ℕ × ℕ)) (cuts : List ℕ) (u v : List ℤ) (t : Table) → IsTable t → IsTableOf sizes cuts t
    → AreWithin (greatest t.costs) u v → ArePricesBounded sizes cuts u v
bounded_by_table sizes cuts u v t table exact within =
    record {
      most = greatest t.costs;
      is_greatest = subst (λ n. IsGreatestCost n (block_cost sizes cuts) (greatest t.costs)) exact.counted (greatest_cost sizes cuts t table exact);
      within = within;
    }
