use Rattle.std.proofs.Common.{◌≡◌, ◌+◌, ◌-◌, ◌<◌, ◌≤◌, [], arith, length, max, rules, slice_index, slice_index_or, subst}
use Rattle.std.proofs.lemmas.List.{get_or_read}
use Rattle.chain_refinement.specs.Refinement.{height, height_at}
use Rattle.refinement_search.specs.Tables.{IsLevelTo}
use Rattle.refinement_search.proofs.Readings.{read_all, read_one}
use Rattle.refinement_search.proofs.read.write_cuts.Goals as goal

pub loop-b-preserved : goal.loop-b-preserved
loop-b-preserved g c =
    let h = c.loop-b.invariant in
    let b = c.loop-b.b in
    let rows = c.args.rows.now in
    let next : slice_index c.loop-b.cuts (b + 1) ≤ length c.args.starts.now - 1 = h.within (b + 1) (omega arith) (omega (arith, h.inside)) in
    let low = slice_index c.args.starts.now (slice_index c.loop-b.cuts (b + 1)) in
    let low_in : low ≤ slice_index c.loop-b.cuts (b + 1) = c.requires.before (slice_index c.loop-b.cuts (b + 1)) (omega (arith, next, c.requires.some_place)) in
    let present_in : slice_index c.args.present.now b < length c.args.starts.now = c.requires.present_within b (omega (arith, h.inside, c.requires.present_counted)) in
    let far : c.max-far.result ≡ max (slice_index c.args.present.now b) low = search rules in
    let read : c.index-rows-b.result ≡ slice_index_or rows b [] = get_or_read rows b c.index-rows-b.result h.inside c.index-rows-b.is [] in
    let by_far : IsLevelTo (height c.index-rows-b.result) low (max (slice_index c.args.present.now b) low) c.last_on_level.result = subst
    (λ n. IsLevelTo (height c.index-rows-b.result) low n c.last_on_level.result) far c.last_on_level.ensures.level in
    let level : IsLevelTo (height_at rows b) low (max (slice_index c.args.present.now b) low) c.last_on_level.result = subst
    (λ s. IsLevelTo (height s) low (max (slice_index c.args.present.now b) low) c.last_on_level.result) read by_far in
    read_one (length rows) c.args.present.now (length c.args.starts.now - 1) (slice_index c.args.starts.now) (height_at rows) c.loop-b.cuts
    b c.last_on_level.result h (omega arith) (omega (arith, level.to, next, low_in, present_in)) level

pub returns : goal.returns
returns g c =
    record {
      read = read_all (length c.args.rows.now) c.args.present.now (length c.args.starts.now - 1) (slice_index c.args.starts.now)
          (height_at c.args.rows.now) c.loop-b.cuts c.loop-b.b c.loop-b.invariant (omega arith);
    }
