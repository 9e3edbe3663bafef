use Rattle.std.proofs.Common.{◌≡◌, ◌+◌, ◌-◌, ◌/◌, ◌%◌, ◌^◌, min, max, arith, rules}
use Rattle.merged_chains.proofs.EvenShares.{least_between, shares_enclose}
use Rattle.merged_chains.proofs.bounds.bounds_by_totals.Goals as goal

pub returns-clause-encloses : goal.returns-clause-encloses
returns-clause-encloses c =
    let low : c.max.result ≡ max c.args.greatest (c.args.total / c.args.pes + min 1 (c.args.total % c.args.pes)) = search rules in
    let high : c.saturating_add.result ≡ min (c.args.total / c.args.pes + c.args.greatest) (2 ^ 64 - 1) = search rules in
    λ loads whole greatest. rw (low, high) (shares_enclose loads c.args.pes c.args.greatest c.args.total (2 ^ 64 - 1) c.requires.some_pe whole greatest (omega arith))

pub returns-clause-least : goal.returns-clause-least
returns-clause-least c = λ loads least whole greatest peak_is. least_between loads c.args.pes c.max.result c.saturating_add.result least
    (returns-clause-encloses c loads whole greatest) peak_is
