use Rattle.std.proofs.Common.{◌≡◌, arith, ap, length, sym, ◌∙◌, pos, ◌+ℤ◌}
use Rattle.std.proofs.lemmas.Int.{ints}
use Rattle.lb_certificates.specs.Naming.{naming_cost, price_sum}
use Rattle.block_assignment.specs.Table.{cost_at}
use Rattle.speed_certificates.specs.Speeds.{count}
use Rattle.speed_namings.proofs.NamesFlawless.{right_claim}
use Rattle.speed_namings.proofs.prices.check_prices.Goals as goal

pub returns-clause-right : goal.returns-clause-right
returns-clause-right g c =
    let costs = c.args.costs.now in
    let pes = c.args.pes.now in
    let names = c.args.names.now in
    let moved : c.cost_of-moved.result ≡ naming_cost (count pes) (cost_at costs) names = c.cost_of-moved.ensures.value
    ∙ ap (λ n. naming_cost n (cost_at costs) names) (sym c.requires.pes) in
    let sums : price_sum c.args.u.now +ℤ price_sum c.args.v.now ≡ pos c.cost_of-moved.result = omega (arith, ints) in
    let u : length c.args.u.now ≡ count pes = omega arith in
    let v : length c.args.v.now ≡ count pes = omega arith in
    right_claim costs c.args.loads.now pes c.args.time names c.args.u.now c.args.v.now c.requires.naming c.requires.timely u v
    c.in_default.ensures (sums ∙ ap (λ n. pos n) moved)
