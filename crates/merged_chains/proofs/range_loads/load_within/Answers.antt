use Rattle.std.proofs.Common.{◌≡◌, ◌-◌, min, max, length, rules}
use Rattle.merged_chains.proofs.PartWeights.{load_cut}
use Rattle.merged_chains.proofs.range_loads.load_within.Goals as goal

pub returns : goal.returns
returns g c =
    let part = c.args.part.now in
    let from : c.min-from.result ≡ min (length part) (c.args.begin - c.args.first) = search rules in
    let to : c.max.result ≡ max (min (length part) (c.args.end - c.args.first)) c.min-from.result = search rules in
    record { value = load_cut part c.load.result c.min-from.result c.max.result (c.args.begin - c.args.first) (c.args.end - c.args.first) c.load.ensures.value from to }
