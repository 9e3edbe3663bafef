use Rattle.std.proofs.Common.{◌≡◌, ◌<◌, sym, subst}
use Rattle.block_assignment.specs.Table.{Table, cost_at}
use Rattle.block_assignment.proofs.matrix.CostMatrix.cost.Goals as goal

pub cost-requires-clause-block : goal.cost-requires-clause-block
cost-requires-clause-block g c = subst (λ (t : Table). c.args.b < t.blocks) (sym c.as_costs.ensures.value) c.requires.block

pub cost-requires-clause-pe : goal.cost-requires-clause-pe
cost-requires-clause-pe g c = subst (λ (t : Table). c.args.p < t.blocks) (sym c.as_costs.ensures.value) c.requires.pe

pub returns-clause-value : goal.returns-clause-value
returns-clause-value g c = subst (λ (t : Table). c.cost.result ≡ cost_at t c.args.b c.args.p) c.as_costs.ensures.value c.cost.ensures.value

pub returns-clause-small : goal.returns-clause-small
returns-clause-small g c = c.cost.ensures.small
