use Rattle.std.proofs.Common.{◌≡◌, ℕ, ◌+◌, ◌-◌, ◌*◌, ◌<◌, ◌≤◌, ◌++◌, List, length, slice_index, sum, arith, refl, rules, subst}
use Rattle.lb_certificates.specs.Held.{held_cost, row_of}
use Rattle.block_assignment.specs.declared.limits.TheConstants.MatrixLimits.{BYTES}
use Rattle.block_assignment.proofs.ListedRows.{part_small}
use Rattle.block_assignment.proofs.Rows.{HasRowsOf, rows_more_of}
use Rattle.block_assignment.proofs.held_rows.push_rows.Goals as goal

pub fill_row-requires-clause-small : goal.fill_row-requires-clause-small
fill_row-requires-clause-small g c = part_small c.args.held.now _ _ BYTES c.requires.bytes.small

pub loop-b-preserved : goal.loop-b-preserved
loop-b-preserved g c =
    let held : List ℕ = c.args.held.now in
    let blocks : ℕ = c.args.blocks in
    let b : ℕ = c.loop-b.b in
    let appended : c.extend_from_slice.new.self.items ≡ c.loop-b.costs.items ++ c.fill_row.new.row = search rules in
    let width : length c.fill_row.new.row ≡ blocks = omega arith in
    let small : sum (row_of blocks held b) ≤ BYTES = part_small held (b * blocks) (b * blocks + blocks - b * blocks) BYTES c.requires.bytes.small in
    let filled : (p : ℕ) → p < blocks → slice_index c.fill_row.new.row p ≡ held_cost blocks held b p = λ p inside. c.fill_row.ensures p (omega (arith, inside, width)) in
    record {
      rows = rw appended (rows_more_of BYTES (held_cost blocks held) blocks b c.loop-b.costs.items c.fill_row.new.row
          (λ p _. omega (arith, small)) c.loop-b.invariant.rows width filled);
      width = width;
    }

pub returns-clause-matrix : goal.returns-clause-matrix
returns-clause-matrix g c =
    let all : c.loop-b.b ≡ c.args.blocks = omega (arith, c.loop-b-test.false, c.loop-b.auto.b-end) in
    let rows : HasRowsOf BYTES (held_cost c.args.blocks c.args.held.now) c.args.blocks c.args.blocks c.loop-b.costs.items = subst
    (λ b. HasRowsOf BYTES (held_cost c.args.blocks c.args.held.now) c.args.blocks b c.loop-b.costs.items) all c.loop-b.invariant.rows in
    record { some_block = c.requires.bytes.square.some_block; few_blocks = c.requires.bytes.square.few_blocks; square = rows.counted; small = rows.small }

pub returns-clause-exact : goal.returns-clause-exact
returns-clause-exact g c =
    let all : c.loop-b.b ≡ c.args.blocks = omega (arith, c.loop-b-test.false, c.loop-b.auto.b-end) in
    let rows : HasRowsOf BYTES (held_cost c.args.blocks c.args.held.now) c.args.blocks c.args.blocks c.loop-b.costs.items = subst
    (λ b. HasRowsOf BYTES (held_cost c.args.blocks c.args.held.now) c.args.blocks b c.loop-b.costs.items) all c.loop-b.invariant.rows in
    record { counted = refl; exact = rows.exact }
