use Rattle.std.proofs.Common.{◌≡◌, sym, subst}
use Rattle.lb_certificates.specs.Naming.{naming_cost, IsNaming}
use Rattle.block_assignment.specs.Table.{Table, cost_at}
use Rattle.block_assignment.proofs.matrix.CostMatrix.cost_of.Goals as goal

pub cost_of-requires : goal.cost_of-requires
cost_of-requires g c = record { naming = subst (λ (t : Table). IsNaming t.blocks c.args.names.now) (sym c.as_costs.ensures.value) c.requires.naming }

pub returns : goal.returns
returns g c =
    record { value = subst (λ (t : Table). c.cost_of.result ≡ naming_cost t.blocks (cost_at t) c.args.names.now) c.as_costs.ensures.value c.cost_of.ensures.value }
