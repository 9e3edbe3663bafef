use Rattle.std.proofs.Common.{◌≡◌, ℕ, ◌+◌, ◌<◌, ◌++◌, List, length, slice_index, arith, rules}
use Rattle.block_assignment.specs.declared.limits.TheConstants.MatrixLimits.{BYTES}
use Rattle.block_assignment.specs.Table.{Table}
use Rattle.block_assignment.specs.Discounted.{discounted_cost}
use Rattle.block_assignment.proofs.Rows.{rows_more_of}
use Rattle.block_assignment.proofs.discounted.push_rows.Goals as goal

pub loop-b-preserved : goal.loop-b-preserved
loop-b-preserved g c =
    let t : Table = c.args.table.now in
    let b : ℕ = c.loop-b.b in
    let discount : List ℕ = c.args.discount.now in
    let appended : c.extend_from_slice.new.self.items ≡ c.loop-b.costs.items ++ c.fill_row.new.row = search rules in
    let width : length c.fill_row.new.row ≡ t.blocks = omega arith in
    let filled : (p : ℕ) → p < t.blocks → slice_index c.fill_row.new.row p ≡ discounted_cost t discount b p = λ p inside. omega
    (arith, c.fill_row.ensures p (omega (arith, inside, width)), c.row.ensures.costs p inside) in
    record {
      rows = rw appended (rows_more_of BYTES (discounted_cost t discount) t.blocks b c.loop-b.costs.items c.fill_row.new.row
          (λ p inside. c.requires.small b p (omega arith) inside) c.loop-b.invariant.rows width filled);
      width = width;
    }
