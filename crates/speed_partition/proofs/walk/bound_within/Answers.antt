use Rattle.std.proofs.Common.{ap, ◌≡◌, ◌+◌, ◌<◌, max, length, get_or, slice_index_or, arith, rules, refl, subst, ◌∙◌}
use Rattle.lb_snapshot.specs.Measured.{load}
use Rattle.chain_partition.proofs.Ranges.{load_more}
use Rattle.chain_partition.proofs.RunningSums.{load_split}
use Rattle.speed_certificates.specs.Speeds.{background_of, count, speed_of}
use Rattle.speed_certificates.proofs.LeastTimes.{some_speed}
use Rattle.speed_partition.specs.Greedy.{IsGreatestEndBy}
use Rattle.speed_partition.specs.Ticks.{IsLimit}
use Rattle.speed_partition.proofs.GreedyTimes.{end_within, load_small}
use Rattle.speed_partition.proofs.WalkedTimes.{IsEarlierOf, IsLaterOf, Walked, end_more, next_speed, walk_fits, walk_more, walk_none, walk_stops}
use Rattle.speed_partition.proofs.walk.bound_within.Goals as goal

pub loop-pe-init : goal.loop-pe-init
loop-pe-init g c =
    record {
      walked = walk_none c.args.chain.now c.args.pes.now c.args.ticks c.args.scale c.requires.scale.some;
      weighed = refl;
      short = λ none. absurd (omega arith);
    }

pub overflow_add-work : goal.overflow_add-work
overflow_add-work g c =
    let block = c.block_within-block in
    omega (arith, block.ensures.load, load_small c.args.chain.now c.loop-pe.first block.result.end block.ensures.chain, c.background-background.ensures.small)

pub returns-then-block-all : goal.returns-then-block-all
returns-then-block-all g c =
    let xs = c.args.chain.now in
    let pes = c.args.pes.now in
    let k = c.loop-pe.pe in
    let block = c.block_within-block in
    let is_limit : IsLimit (background_of pes k) (speed_of pes k) c.args.ticks c.args.scale c.limit_of-limit.result = rw
    (← c.background-background.ensures.value, ← c.speed-speed.ensures.value) c.limit_of-limit.ensures.limit in
    let step : IsGreatestEndBy xs pes c.args.ticks c.args.scale k c.loop-pe.first block.result.end = end_within xs pes c.args.ticks
    c.args.scale k c.limit_of-limit.result c.loop-pe.first block.result.end
    (λ b. omega (arith, load_small xs c.loop-pe.first b block.ensures.chain)) is_limit block.ensures.greatest in
    let work : c.background-background.result + block.result.load ≡ background_of pes k + load xs c.loop-pe.first block.result.end = omega
    (arith, c.background-background.ensures.value, block.ensures.load) in
    let later : IsLaterOf c.loop-pe.latest (record { work = c.background-background.result + block.result.load; speed = speed_of pes k })
    c.later-latest.result = rw (← c.speed-speed.ensures.value) (record {
      either = c.later-latest.ensures.either;
      from_one = c.later-latest.ensures.from_one;
      from_other = c.later-latest.ensures.from_other;
    }) in
    let ended = end_more xs pes k c.args.ticks c.args.scale c.loop-pe.first block.result.end (c.background-background.result + block.result.load)
    c.loop-pe.latest c.later-latest.result c.loop-pe.invariant.walked.ends (some_speed pes k c.requires.scale.are (omega arith)) step work later in
    let all : block.result.end ≡ length xs = c.if-block-all.true ∙ ap (λ list. length list) c.loads-loads.ensures.value in
    let time : c.max.result ≡ max c.ticks_to.result c.args.idle = search rules in
    record {
      shows = rw time (walk_fits xs pes (k + 1) c.args.ticks c.args.scale c.args.idle c.ticks_to.result block.result.end
          c.later-latest.result ended all (omega arith) c.requires.idle c.requires.from c.ticks_to.ensures.needed);
    }

pub overflow_add-more : goal.overflow_add-more
overflow_add-more g c =
    let xs = c.args.chain.now in
    let block = c.block_within-block in
    let loads = c.loads-loads.result.now in
    let short : block.result.end < length xs = omega (arith, block.ensures.greatest.inside, c.if-block-all.false, ap (λ list. length list) c.loads-loads.ensures.value) in
    let one : slice_index_or loads block.result.end 0 ≡ get_or xs block.result.end 0 = ap (λ list. get_or list block.result.end 0) c.loads-loads.ensures.value in
    omega (
      arith,
      one,
      block.ensures.load,
      load_more xs c.loop-pe.first block.result.end 0 block.ensures.onward short,
      load_small xs c.loop-pe.first (block.result.end + 1) block.ensures.chain,
      c.background-background.ensures.small,
    )

pub overflow_add-before : goal.overflow_add-before
overflow_add-before g c =
    let block = c.block_within-block in
    omega (
      arith,
      c.loop-pe.invariant.weighed,
      block.ensures.load,
      load_split c.args.chain.now c.loop-pe.first block.result.end block.ensures.onward,
      load_small c.args.chain.now 0 block.result.end block.ensures.chain,
    )

pub loop-pe-preserved : goal.loop-pe-preserved
loop-pe-preserved g c =
    let xs = c.args.chain.now in
    let pes = c.args.pes.now in
    let k = c.loop-pe.pe in
    let before = c.loop-pe.invariant in
    let block = c.block_within-block in
    let end = block.result.end in
    let is_limit : IsLimit (background_of pes k) (speed_of pes k) c.args.ticks c.args.scale c.limit_of-limit.result = rw
    (← c.background-background.ensures.value, ← c.speed-speed.ensures.value) c.limit_of-limit.ensures.limit in
    let step : IsGreatestEndBy xs pes c.args.ticks c.args.scale k c.loop-pe.first end = end_within xs pes c.args.ticks
    c.args.scale k c.limit_of-limit.result c.loop-pe.first end
    (λ b. omega (arith, load_small xs c.loop-pe.first b block.ensures.chain)) is_limit block.ensures.greatest in
    let work : c.background-background.result + block.result.load ≡ background_of pes k + load xs c.loop-pe.first end = omega
    (arith, c.background-background.ensures.value, block.ensures.load) in
    let short : end < length xs = omega (arith, block.ensures.greatest.inside, c.if-block-all.false, ap (λ list. length list) c.loads-loads.ensures.value) in
    let one : slice_index_or c.loads-loads.result.now end 0 ≡ get_or xs end 0 = ap (λ list. get_or list end 0) c.loads-loads.ensures.value in
    let more : c.background-background.result + block.result.load + slice_index_or c.loads-loads.result.now end 0
    ≡ background_of pes k + load xs c.loop-pe.first (end + 1) = omega (arith, work, one, load_more xs c.loop-pe.first end 0 block.ensures.onward short) in
    let later : IsLaterOf c.loop-pe.latest (record { work = c.background-background.result + block.result.load; speed = speed_of pes k })
    c.later-latest.result = rw (← c.speed-speed.ensures.value) (record {
      either = c.later-latest.ensures.either;
      from_one = c.later-latest.ensures.from_one;
      from_other = c.later-latest.ensures.from_other;
    }) in
    let earlier : IsEarlierOf c.loop-pe.next
    (record { work = c.background-background.result + block.result.load + slice_index_or c.loads-loads.result.now end 0; speed = speed_of pes k }) c.earlier-next.result =
    rw (← c.speed-speed.ensures.value) (record {
      either = c.earlier-next.ensures.either;
      to_one = c.earlier-next.ensures.to_one;
      to_other = c.earlier-next.ensures.to_other;
    }) in
    record {
      walked = walk_more xs pes k c.args.ticks c.args.scale c.loop-pe.first end (c.background-background.result + block.result.load)
          (c.background-background.result + block.result.load + slice_index_or c.loads-loads.result.now end 0) c.loop-pe.latest c.later-latest.result
          c.loop-pe.next c.earlier-next.result c.requires.scale.are (omega arith) before.walked step short work later more earlier;
      weighed = omega (arith, before.weighed, block.ensures.load, load_split xs c.loop-pe.first end block.ensures.onward);
      short = λ _. short;
    }

pub ticks_to-requires-2-clause-some_speed : goal.ticks_to-requires-2-clause-some_speed
ticks_to-requires-2-clause-some_speed g c =
    next_speed c.args.chain.now c.args.pes.now c.loop-pe.pe c.args.ticks c.args.scale c.loop-pe.first c.loop-pe.latest c.loop-pe.next
    c.requires.scale.are c.loop-pe.invariant.walked (omega (arith, c.requires.scale.are.some_pe)) (omega arith)

pub returns : goal.returns
returns g c =
    let xs = c.args.chain.now in
    let pes = c.args.pes.now in
    let all : c.loop-pe.pe ≡ count pes = omega arith in
    let short : c.loop-pe.first < length xs = c.loop-pe.invariant.short (omega (arith, c.requires.scale.are.some_pe)) in
    let walked : Walked xs pes (count pes) c.args.ticks c.args.scale c.loop-pe.first c.loop-pe.latest c.loop-pe.next = subst
    (λ k. Walked xs pes k c.args.ticks c.args.scale c.loop-pe.first c.loop-pe.latest c.loop-pe.next) all c.loop-pe.invariant.walked in
    record {
      shows = walk_stops xs pes c.args.ticks c.args.scale c.ticks_to-2.result c.loop-pe.first c.loop-pe.latest c.loop-pe.next
          c.requires.scale.are walked short c.ticks_to-2.ensures.needed;
    }
