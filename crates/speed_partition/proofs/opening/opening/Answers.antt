use Rattle.std.proofs.Common.{◌≡◌, ◌+◌, ◌*◌, ◌/◌, ◌%◌, ◌≤◌, All, min, max, length, sum, refl, rules, subst, sym}
use Rattle.lb_snapshot.specs.Measured.{load}
use Rattle.chain_partition.proofs.Bottlenecks.{all_within_sum}
use Rattle.speed_partition.specs.Search.{Enclose}
use Rattle.speed_partition.proofs.Openings.{opening_encloses, opening_few}
use Rattle.speed_partition.proofs.opening.opening.Goals as goal

pub returns-clause-enclosed : goal.returns-clause-enclosed
returns-clause-enclosed g c =
    let xs = c.args.chain.now in
    let pes = c.args.pes.now in
    let totals = c.totals_of-totals.result in
    let share : c.div_ceil-share.result ≡ (load xs 0 (length xs) + totals.background) * c.args.scale / totals.speed
    + min 1 ((load xs 0 (length xs) + totals.background) * c.args.scale % totals.speed) = rw
    (c.div_ceil-share.ensures, c.from.ensures, c.from-2.ensures, c.from-3.ensures, c.load.ensures.value, c.len.ensures.value) refl in
    let low : c.max-low.result ≡ max c.div_ceil-share.result totals.idle = search rules in
    let small : All (λ w. w ≤ c.greatest.result) xs = subst (λ list. All (λ w. w ≤ c.greatest.result) list) c.loads.ensures.value c.greatest.ensures.bounds in
    rw low (opening_encloses xs pes c.args.scale c.greatest.result c.ticks_to.result c.div_ceil-share.result totals c.requires.scale small
    c.totals_of-totals.ensures.totals c.ticks_to.ensures.needed c.totals_of-totals.ensures.some_speed share)

pub returns-clause-few : goal.returns-clause-few
returns-clause-few g c =
    let xs = c.args.chain.now in
    let heaviest : c.greatest.result ≤ sum xs = c.greatest.ensures.least (sum xs) (subst (λ list. All (λ w. w ≤ sum xs) list) (sym c.loads.ensures.value) (all_within_sum xs)) in
    let enclosed : Enclose xs c.args.pes.now c.args.scale c.max-low.result (c.max-low.result + c.ticks_to.result) = returns-clause-enclosed g c in
    opening_few xs c.args.pes.now c.args.scale c.max-low.result c.greatest.result c.ticks_to.result c.requires.scale c.len.ensures.chain.light
    heaviest enclosed.stops c.ticks_to.ensures.small
