use Rattle.std.proofs.Common.{◌≡◌, ℕ, ◌+◌, ◌-◌, ◌<◌, ◌≤◌, ◌++◌, List, length, slice_index, sum_by, arith, rules, subst}
use Rattle.std.specs.List.{zip}
use Rattle.lb_certificates.specs.Naming.{block_cost, moved_bytes}
use Rattle.block_assignment.specs.declared.limits.TheConstants.MatrixLimits.{BLOCKS, BYTES}
use Rattle.lb_certificates.proofs.ListedElements.{bytes_of_zip, part_of_zip}
use Rattle.block_assignment.proofs.ListedRows.{cost_in_all, part_small}
use Rattle.block_assignment.proofs.Rows.{HasRows, rows_more, table_of_rows, exact_of_rows}
use Rattle.block_assignment.proofs.matrix.push_rows.Goals as goal

pub fill_row-requires-clause-small : goal.fill_row-requires-clause-small
fill_row-requires-clause-small g c = part_small c.args.bytes.now _ _ BYTES c.requires.blocks.small

pub loop-b-preserved : goal.loop-b-preserved
loop-b-preserved g c =
    let sizes : List (ℕ × ℕ) = zip c.args.bytes.now c.args.places.now in
    let cuts : List ℕ = c.args.cuts.now in
    let b : ℕ = c.loop-b.b in
    let first : ℕ = slice_index cuts b in
    let appended : c.extend_from_slice.new.self.items ≡ c.loop-b.costs.items ++ c.fill_row.new.row = search rules in
    let width : length c.fill_row.new.row ≡ length cuts - 1 = omega arith in
    let filled : (p : ℕ) → p < length c.fill_row.new.row → slice_index c.fill_row.new.row p ≡ block_cost sizes cuts b p =
    subst (λ part. (p : ℕ) → p < length c.fill_row.new.row → slice_index c.fill_row.new.row p ≡ sum_by (λ size. moved_bytes size p) part)
    (part_of_zip first (slice_index cuts (b + 1) - first) c.args.bytes.now c.args.places.now) c.fill_row.ensures in
    let most : sum_by (λ size. size.0) sizes ≤ BYTES = omega (arith, bytes_of_zip c.args.bytes.now c.args.places.now c.requires.blocks.divided.paired, c.requires.blocks.small) in
    record {
      rows = rw appended (rows_more BYTES sizes cuts (length cuts - 1) b c.loop-b.costs.items c.fill_row.new.row
          (λ p. cost_in_all sizes cuts b p BYTES most) c.loop-b.invariant.rows width (λ p inside. filled p (omega (arith, inside, width))));
      width = width;
    }

pub returns-clause-matrix : goal.returns-clause-matrix
returns-clause-matrix g c =
    let blocks : ℕ = length c.args.cuts.now - 1 in
    let sizes : List (ℕ × ℕ) = zip c.args.bytes.now c.args.places.now in
    let all : c.loop-b.b ≡ blocks = omega (arith, c.loop-b-test.false, c.loop-b.auto.b-end) in
    let rows : HasRows BYTES sizes c.args.cuts.now blocks blocks c.loop-b.costs.items = subst
    (λ b. HasRows BYTES sizes c.args.cuts.now blocks b c.loop-b.costs.items) all c.loop-b.invariant.rows in
    table_of_rows BLOCKS BYTES sizes c.args.cuts.now blocks c.loop-b.costs.items (omega (arith, c.requires.blocks.divided.some_block))
    (omega (arith, c.requires.blocks.divided.few_blocks)) rows

pub returns-clause-exact : goal.returns-clause-exact
returns-clause-exact g c =
    let blocks : ℕ = length c.args.cuts.now - 1 in
    let sizes : List (ℕ × ℕ) = zip c.args.bytes.now c.args.places.now in
    let all : c.loop-b.b ≡ blocks = omega (arith, c.loop-b-test.false, c.loop-b.auto.b-end) in
    let rows : HasRows BYTES sizes c.args.cuts.now blocks blocks c.loop-b.costs.items = subst
    (λ b. HasRows BYTES sizes c.args.cuts.now blocks b c.loop-b.costs.items) all c.loop-b.invariant.rows in
    exact_of_rows BYTES sizes c.args.cuts.now c.loop-b.costs.items rows
