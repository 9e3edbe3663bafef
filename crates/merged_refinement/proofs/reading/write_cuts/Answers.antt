use Rattle.std.proofs.Common.{◌≡◌, ◌+◌, ◌<◌, ◌≤◌, [], arith, length, max, rules, slice_index, slice_index_or, subst}
use Rattle.std.proofs.lemmas.List.{get_or_read}
use Rattle.refinement_search.specs.Tables.{IsLevelTo}
use Rattle.merged_refinement.specs.Rows.{row_at, rows_at}
use Rattle.merged_refinement.proofs.Readings.{read_all, read_one}
use Rattle.merged_refinement.proofs.reading.write_cuts.Goals as goal

pub last_on_level-requires-clause-rises : goal.last_on_level-requires-clause-rises
last_on_level-requires-clause-rises g c x y onward =
    let b = c.loop-b.b in
    let read : c.index-rows-b.result ≡ slice_index_or c.args.rows.now b (0, []) = get_or_read c.args.rows.now b c.index-rows-b.result
    c.loop-b.invariant.inside c.index-rows-b.is (0, []) in
    rw read (c.requires.rises b x y c.loop-b.invariant.inside onward)

pub loop-b-preserved : goal.loop-b-preserved
loop-b-preserved g c =
    let h = c.loop-b.invariant in
    let b = c.loop-b.b in
    let rows = c.args.rows.now in
    let next : slice_index c.loop-b.cuts (b + 1) ≤ c.args.elements = h.within (b + 1) (omega arith) (omega (arith, h.inside)) in
    let low = slice_index c.args.starts.now (slice_index c.loop-b.cuts (b + 1)) in
    let low_in : low ≤ slice_index c.loop-b.cuts (b + 1) = c.requires.before (slice_index c.loop-b.cuts (b + 1)) (omega (arith, next, c.requires.elements)) in
    let present_in : slice_index c.args.present.now b < length c.args.starts.now = c.requires.present_within b (omega (arith, h.inside, c.requires.present_counted)) in
    let far : c.max-far.result ≡ max (slice_index c.args.present.now b) low = search rules in
    let read : c.index-rows-b.result ≡ slice_index_or rows b (0, []) = get_or_read rows b c.index-rows-b.result h.inside c.index-rows-b.is (0, []) in
    let by_far : IsLevelTo (row_at c.index-rows-b.result) low (max (slice_index c.args.present.now b) low) c.last_on_level.result = subst
    (λ n. IsLevelTo (row_at c.index-rows-b.result) low n c.last_on_level.result) far c.last_on_level.ensures.level in
    let level : IsLevelTo (rows_at rows b) low (max (slice_index c.args.present.now b) low) c.last_on_level.result = subst
    (λ r. IsLevelTo (row_at r) low (max (slice_index c.args.present.now b) low) c.last_on_level.result) read by_far in
    read_one (length rows) c.args.present.now c.args.elements (slice_index c.args.starts.now) (rows_at rows) c.loop-b.cuts b
    c.last_on_level.result h (omega arith) (omega (arith, level.to, next, low_in, present_in, c.requires.elements)) level

pub returns : goal.returns
returns g c =
    record {
      read = read_all (length c.args.rows.now) c.args.present.now c.args.elements (slice_index c.args.starts.now)
          (rows_at c.args.rows.now) c.loop-b.cuts c.loop-b.b c.loop-b.invariant (omega arith);
    }
