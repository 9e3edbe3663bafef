use Rattle.std.proofs.Common.{◌-◌, length, slice_index, subst}
use Rattle.chain_refinement.specs.Refinement.{height_at}
use Rattle.refinement_search.specs.Tables.{AreRead}
use Rattle.refinement_search.proofs.Found.{AreFound, nearest_where_found, proved_where_found}
use Rattle.refinement_search.proofs.search.read_off.Goals as goal

pub returns-clause-proved : goal.returns-clause-proved
returns-clause-proved g c =
    let chain = c.args.chain.now in
    let heights = c.in_ok-heights.heights in
    let read = subst (λ hs. AreRead (length hs) chain.present.now (length chain.starts.now - 1) (slice_index chain.starts.now)
    (height_at hs) c.in_ok-cuts.cuts.items) c.as_slice.ensures.value c.in_ok-cuts.ensures.read in
    let found : AreFound chain c.args.loads.now c.args.limit heights c.in_ok-cuts.cuts.items = record {
      chain = c.requires.chain;
      paired = c.requires.paired;
      starts = c.requires.starts;
      counted = c.in_ok-heights.ensures.counted;
      piled = c.in_ok-heights.ensures.piled;
      read = read;
      some_within = c.requires.some_within;
    } in
    rw c.new.ensures.value (proved_where_found chain c.args.loads.now c.args.limit heights c.in_ok-cuts.cuts.items found)

pub returns-clause-nearest : goal.returns-clause-nearest
returns-clause-nearest g c =
    let chain = c.args.chain.now in
    let heights = c.in_ok-heights.heights in
    let read = subst (λ hs. AreRead (length hs) chain.present.now (length chain.starts.now - 1) (slice_index chain.starts.now)
    (height_at hs) c.in_ok-cuts.cuts.items) c.as_slice.ensures.value c.in_ok-cuts.ensures.read in
    let found : AreFound chain c.args.loads.now c.args.limit heights c.in_ok-cuts.cuts.items = record {
      chain = c.requires.chain;
      paired = c.requires.paired;
      starts = c.requires.starts;
      counted = c.in_ok-heights.ensures.counted;
      piled = c.in_ok-heights.ensures.piled;
      read = read;
      some_within = c.requires.some_within;
    } in
    rw c.new.ensures.value (nearest_where_found chain c.args.loads.now c.args.limit heights c.in_ok-cuts.cuts.items found)
