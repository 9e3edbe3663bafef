-- What namings cost, and how great a cost is.
use Rattle.std.proofs.Common.{◌≡◌, ℕ, ◌+◌, ◌*◌, ◌^◌, ◌<◌, ◌≤◌, arith, add-one, refl}
use Rattle.std.proofs.lemmas.Nat.{mul-add-lt}
use Rattle.chare_index.specs.declared.limits.TheConstants.Limits.{PES}
use Rattle.lb_certificates.specs.Naming.{total}
use Rattle.block_assignment.specs.declared.limits.TheConstants.MatrixLimits.{BLOCKS, BYTES}
use Rattle.block_assignment.specs.Table.{Table, IsMatrix, IsTable, IsWithin, cost_at}

-- one more term
pub total_more : (n : ℕ) (f : ℕ → ℕ) → total (n + 1) f ≡ total n f + f n
total_more n f = rw add-one refl

-- each cost is within the bound of its table
cost_bounded : (most_blocks most_cost : ℕ) (t : Table) (b p : ℕ) → IsWithin most_blocks most_cost t → b < t.blocks → p < t.blocks → cost_at t b p ≤ most_cost
cost_bounded most_blocks most_cost t b p h block pe =
    h.small (b * t.blocks + p) 0 (omega (arith, h.square, mul-add-lt b t.blocks p t.blocks block pe))

pub cost_small : (t : Table) (b p : ℕ) → IsTable t → b < t.blocks → p < t.blocks → cost_at t b p ≤ 2 ^ 36
cost_small t b p h block pe = cost_bounded PES (2 ^ 36) t b p h block pe

pub cost_within : (t : Table) (b p : ℕ) → IsMatrix t → b < t.blocks → p < t.blocks → cost_at t b p ≤ BYTES
cost_within t b p h block pe = cost_bounded BLOCKS BYTES t b p h block pe

-- the table of a snapshot is within the widest limits
pub matrix_of_table : (t : Table) → IsTable t → IsMatrix t
matrix_of_table t h =
    record {
      some_block = h.some_block;
      few_blocks = omega (arith, h.few_blocks);
      square = h.square;
      small = λ i d inside. omega (arith, h.small i d inside);
    }
