use Rattle.std.proofs.Common.{◌≡◌, ◌+◌, ◌≤◌, max, min, length, slice_index, arith, rules, subst}
use Rattle.lb_snapshot.specs.Measured.{load}
use Rattle.chain_partition.proofs.Ranges.{load_more}
use Rattle.chain_partition.proofs.RunningSums.{load_split}
use Rattle.chain_partition.proofs.Walks.{Walked, walk_more, walk_fits, walk_stops}
use Rattle.chain_partition.proofs.search.bound_within.Goals as goal

pub returns-then-block-all : goal.returns-then-block-all
returns-then-block-all c =
    let block = c.end_of_block-block in
    let all : block.result.end ≡ length c.args.loads.now = omega (arith) in
    let heavier : c.max-heaviest.result ≡ max c.loop.heaviest (load c.args.loads.now c.loop.first block.result.end) = search rules in
    record {
      shows = rw heavier (walk_fits c.args.loads.now c.loop.counter c.args.pes c.args.limit c.loop.heaviest c.loop.least c.loop.first
          block.result.end c.loop.invariant.walked block.ensures.greatest all (omega arith));
    }

pub loop-preserved : goal.loop-preserved
loop-preserved c =
    let xs = c.args.loads.now in
    let block = c.end_of_block-block in
    let inside : block.result.end + 1 ≤ length xs = omega (arith, block.ensures.greatest.inside, c.if-block-all.false) in
    let next : block.result.load + slice_index xs block.result.end ≡ load xs c.loop.first (block.result.end + 1) = omega
    (arith, block.ensures.load, load_more xs c.loop.first block.result.end 0 block.ensures.onward (omega (arith, inside))) in
    let heavier : c.max-heaviest.result ≡ max c.loop.heaviest (load xs c.loop.first block.result.end) = search rules in
    let less : c.min-least.result ≡ min c.loop.least (load xs c.loop.first (block.result.end + 1)) = rw (← next) (search rules) in
    record {
      walked = rw (heavier, less) (walk_more xs c.loop.counter c.args.limit c.loop.heaviest c.loop.least c.loop.first block.result.end
          c.loop.invariant.walked block.ensures.greatest (omega (arith, inside)));
      weighed = omega (arith, c.loop.invariant.weighed, block.ensures.load, load_split xs c.loop.first block.result.end block.ensures.onward);
    }

pub returns : goal.returns
returns c =
    let all : c.loop.counter ≡ c.args.pes = omega arith in
    let walked : Walked c.args.loads.now c.args.pes c.args.limit c.loop.heaviest c.loop.least c.loop.first = subst
    (λ k. Walked c.args.loads.now k c.args.limit c.loop.heaviest c.loop.least c.loop.first) all c.loop.invariant.walked in
    record { shows = walk_stops c.args.loads.now c.args.pes c.args.limit c.loop.heaviest c.loop.least c.loop.first walked (omega arith) }
