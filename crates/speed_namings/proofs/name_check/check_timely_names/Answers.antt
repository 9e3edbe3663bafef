use Rattle.std.proofs.Common.{subst}
use Rattle.std.proofs.lemmas.Result.{on_ok_weaker}
use Rattle.lb_certificates.specs.Naming.{naming_cost}
use Rattle.block_assignment.specs.Table.{cost_at}
use Rattle.speed_certificates.specs.Speeds.{count}
use Rattle.speed_namings.specs.Timely.{IsCheapestTimely}
use Rattle.speed_namings.proofs.NamesFlawless.{cheapest_from}
use Rattle.speed_namings.proofs.name_check.check_timely_names.Goals as goal

pub returns-clause-cheapest : goal.returns-clause-cheapest
returns-clause-cheapest g c =
    let costs = c.args.costs.now in
    let loads = c.args.loads.now in
    let pes = c.args.pes.now in
    on_ok_weaker c.check_lists.result (λ right. subst (λ names. IsCheapestTimely loads pes c.args.time (naming_cost (count pes) (cost_at costs)) names)
    c.as_slice-names.ensures.value (cheapest_from costs loads pes c.args.time c.as_slice-names.result.now c.as_slice-u.result.now c.as_slice-v.result.now right))
    c.check_lists.ensures.right
