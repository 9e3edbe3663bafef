use Rattle.std.proofs.Common.{◌≡◌, ◌+◌, ◌<◌, [], arith, length, rules, slice_index_or}
use Rattle.std.proofs.lemmas.List.{get_or_read}
use Rattle.merged_refinement.proofs.Piles.{IsRowOn, piled_more, small_below, small_more}
use Rattle.merged_refinement.proofs.pile.pile.Goals as goal

pub row_over-requires-clause-small : goal.row_over-requires-clause-small
row_over-requires-clause-small g c x =
    let rows = c.loop-b.rows.items in
    let b = c.loop-b.b in
    let inside : b < length rows = omega (arith, c.loop-b.rows.ok.0, c.loop-b.invariant.filled) in
    let read : c.index.result.now ≡ slice_index_or rows b (0, []) = get_or_read rows b c.index.result.now inside c.index.ensures (0, []) in
    rw read (small_below c.args.bytes.now c.args.table.now b rows c.requires.table (omega (arith, c.loop-b-test.true)) c.loop-b.invariant.small x)

pub loop-b-preserved : goal.loop-b-preserved
loop-b-preserved g c =
    let h = c.loop-b.invariant in
    let bytes = c.args.bytes.now in
    let table = c.args.table.now in
    let rows = c.loop-b.rows.items in
    let b = c.loop-b.b in
    let row = c.in_ok-row.row in
    let counted : length rows ≡ b + 1 = omega (arith, c.loop-b.rows.ok.0, h.filled) in
    let inside : b + 2 < length table.near.now = omega (arith, c.loop-b-test.true) in
    let read : c.index.result.now ≡ slice_index_or rows b (0, []) = get_or_read rows b c.index.result.now (omega (arith, counted)) c.index.ensures (0, []) in
    let made : IsRowOn bytes table b rows row = rw (
      read,
      c.sums_of.ensures.near,
      c.sums_of.ensures.far,
      c.sums_of.ensures.starts,
      c.sums_of.ensures.before,
      c.sums_of.ensures.here,
      c.sums_of.ensures.behind,
    ) at c.in_ok-row.ensures.row in
    record {
      room = search rules;
      filled = search rules;
      piled = rw c.push_reserved.ensures.items (piled_more bytes table b rows row c.requires.table inside counted h.piled made);
      small = rw c.push_reserved.ensures.items (small_more bytes table b rows row c.requires.table inside counted h.small made);
    }
