use Rattle.std.proofs.Common.{◌≡◌, ℕ, ◌-◌, ◌^◌, ◌<◌, ◌++◌, length, slice_index, arith, rules, subst}
use Rattle.chare_index.specs.declared.limits.TheConstants.Limits.{PES}
use Rattle.lb_certificates.specs.Naming.{block_cost}
use Rattle.lb_snapshot.proofs.Parts.{sizes_part}
use Rattle.lb_certificates.proofs.Chains.{block_within}
use Rattle.block_assignment.proofs.Rows.{HasRows, block_cost_small, rows_more, table_of_rows, exact_of_rows}
use Rattle.block_assignment.proofs.table.push_rows.Goals as goal

pub offset_bounds-pairs-first : goal.offset_bounds-pairs-first
offset_bounds-pairs-first g c =
    let part = block_within (length c.args.pairs.now) (length c.args.cuts.now - 1) c.args.cuts.now c.loop-b.b c.requires.divides c.loop-b-test.true in
    omega (arith, part.0, part.1, c.requires.sizes.few)

pub slice_bounds-fill_row-count : goal.slice_bounds-fill_row-count
slice_bounds-fill_row-count g c = (block_within (length c.args.pairs.now) (length c.args.cuts.now - 1) c.args.cuts.now c.loop-b.b c.requires.divides c.loop-b-test.true).0

pub slice_bounds-fill_row-start : goal.slice_bounds-fill_row-start
slice_bounds-fill_row-start g c = (block_within (length c.args.pairs.now) (length c.args.cuts.now - 1) c.args.cuts.now c.loop-b.b c.requires.divides c.loop-b-test.true).0

pub slice_bounds-fill_row-end : goal.slice_bounds-fill_row-end
slice_bounds-fill_row-end g c = (block_within (length c.args.pairs.now) (length c.args.cuts.now - 1) c.args.cuts.now c.loop-b.b c.requires.divides c.loop-b-test.true).1

pub fill_row-requires : goal.fill_row-requires
fill_row-requires g c = sizes_part c.args.pairs.now _ _ c.requires.sizes

pub loop-b-preserved : goal.loop-b-preserved
loop-b-preserved g c =
    let appended : c.extend_from_slice.new.self.items ≡ c.loop-b.costs.items ++ c.fill_row.new.row = search rules in
    let width : length c.fill_row.new.row ≡ length c.args.cuts.now - 1 = omega arith in
    let exact : (p : ℕ) → p < length c.args.cuts.now - 1
    → slice_index c.fill_row.new.row p ≡ block_cost c.args.pairs.now c.args.cuts.now c.loop-b.b p = λ p inside. c.fill_row.ensures p (omega arith) in
    record {
      rows = rw appended (rows_more (2 ^ 36) c.args.pairs.now c.args.cuts.now (length c.args.cuts.now - 1) c.loop-b.b c.loop-b.costs.items
          c.fill_row.new.row (λ p. block_cost_small c.args.pairs.now c.args.cuts.now c.loop-b.b p c.requires.sizes) c.loop-b.invariant.rows width exact);
      width = width;
    }

pub returns-clause-table : goal.returns-clause-table
returns-clause-table g c =
    let blocks : ℕ = length c.args.cuts.now - 1 in
    let all : c.loop-b.b ≡ blocks = omega (arith, c.loop-b-test.false, c.loop-b.auto.b-end) in
    let rows : HasRows (2 ^ 36) c.args.pairs.now c.args.cuts.now blocks blocks c.loop-b.costs.items = subst
    (λ b. HasRows (2 ^ 36) c.args.pairs.now c.args.cuts.now blocks b c.loop-b.costs.items) all c.loop-b.invariant.rows in
    table_of_rows PES (2 ^ 36) c.args.pairs.now c.args.cuts.now blocks c.loop-b.costs.items (omega (arith, c.requires.some_block)) (omega (arith, c.requires.few_blocks)) rows

pub returns-clause-exact : goal.returns-clause-exact
returns-clause-exact g c =
    let blocks : ℕ = length c.args.cuts.now - 1 in
    let all : c.loop-b.b ≡ blocks = omega (arith, c.loop-b-test.false, c.loop-b.auto.b-end) in
    let rows : HasRows (2 ^ 36) c.args.pairs.now c.args.cuts.now blocks blocks c.loop-b.costs.items = subst
    (λ b. HasRows (2 ^ 36) c.args.pairs.now c.args.cuts.now blocks b c.loop-b.costs.items) all c.loop-b.invariant.rows in
    exact_of_rows (2 ^ 36) c.args.pairs.now c.args.cuts.now c.loop-b.costs.items rows
