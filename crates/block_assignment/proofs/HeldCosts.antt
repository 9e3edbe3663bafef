-- The costs by a table are those of elements that have this table.
use Rattle.std.proofs.Common.{◌≡◌, ℕ, ◌*◌, ◌<◌, ◌∙◌, List, length, arith}
use Rattle.lb_certificates.specs.Held.{IsHeld}
use Rattle.lb_certificates.proofs.HeldTables.{cost_by_table}
use Rattle.block_assignment.specs.Held.{HasHeldCosts}
use Rattle.block_assignment.specs.Table.{IsTableOf, Table}

pub table_of_held : (blocks : ℕ) (sizes : List (ℕ × ℕ)) (cuts held : List ℕ) (t : Table) → length held ≡ blocks * blocks
    → HasHeldCosts blocks held t → IsHeld blocks sizes cuts held → IsTableOf sizes cuts t
table_of_held blocks sizes cuts held t square costs table =
    record {
      counted = omega (arith, costs.counted, table.divides.counted);
      exact = λ b p block pe.
          let row : b < blocks = omega (arith, block, costs.counted) in
          let place : p < blocks = omega (arith, pe, costs.counted) in
          costs.exact b p row place ∙ cost_by_table blocks sizes cuts held b p square table row place;
    }
