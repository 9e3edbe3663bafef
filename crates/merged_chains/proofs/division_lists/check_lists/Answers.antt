use Rattle.std.proofs.Common.{◌≡◌, None}
use Rattle.merged_chains.proofs.ListedDivisions.{exact_listed, least_listed, of_division_listed}
use Rattle.merged_chains.proofs.division_lists.check_lists.Goals as goal

pub returns-clause-exact : goal.returns-clause-exact
returns-clause-exact g c =
    let checked = c.check_weights.ensures in
    exact_listed c.args.elements c.args.pes c.args.bottleneck c.args.cuts.now c.args.stops.now c.args.block_loads.now c.args.fence_loads.now
    c.in_ok-division.division c.check_weights.result c.err.result c.in_ok-division.ensures c.err.ensures.value checked.exact checked.first_flaw

pub returns-clause-of_division : goal.returns-clause-of_division
returns-clause-of_division g c =
    let checked = c.check_weights.ensures in
    of_division_listed c.args.elements c.args.pes c.args.bottleneck c.args.cuts.now c.args.stops.now c.args.block_loads.now
    c.args.fence_loads.now c.in_ok-division.division c.check_weights.result c.err.result c.in_ok-division.ensures c.err.ensures.value
    checked.of_division checked.flaw_of_division

pub returns-clause-least : goal.returns-clause-least
returns-clause-least g c =
    let checked = c.check_weights.ensures in
    λ loads counted weigh right.
    let none : c.err.result ≡ None = cc in
    least_listed c.args.elements c.args.pes c.args.bottleneck c.args.cuts.now c.args.stops.now c.args.block_loads.now c.args.fence_loads.now
    c.in_ok-division.division c.check_weights.result c.err.result c.in_ok-division.ensures c.err.ensures.value checked.least loads counted weigh none
