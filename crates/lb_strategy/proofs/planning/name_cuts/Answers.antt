use Rattle.std.proofs.Common.{◌≡◌, rules, refl, ◌∙◌, subst}
use Rattle.block_assignment.specs.Table.{IsTable, cost_at}
use Rattle.lb_certificates.specs.Naming.{naming_cost}
use Rattle.lb_strategy.proofs.RightDecisions.{least_by_table, moved_by_table, named_by_table}
use Rattle.lb_strategy.proofs.PriceBounds.{bounded_by_table}
use Rattle.lb_strategy.proofs.planning.name_cuts.Goals as goal

pub returns-clause-named : goal.returns-clause-named
returns-clause-named g c =
    named_by_table c.args.sizes.now c.args.cuts.now c.in_ok-naming.naming c.in_ok-naming.prices.u c.in_ok-naming.prices.v
    c.in_ok-table.table c.requires.blocks c.in_ok-table.ensures.table c.in_ok-naming.ensures.naming c.in_ok-naming.ensures.proved

pub returns-clause-least_naming : goal.returns-clause-least_naming
returns-clause-least_naming g c =
    least_by_table c.args.sizes.now c.args.cuts.now c.in_ok-naming.naming _ c.in_ok-table.table refl c.requires.blocks
    c.in_ok-table.ensures.table c.in_ok-naming.ensures.least_naming

pub returns-clause-moved : goal.returns-clause-moved
returns-clause-moved g c =
    let cost : c.cost_of-moved.result ≡ naming_cost c.in_ok-table.table.blocks (cost_at c.in_ok-table.table) c.in_ok-naming.naming = search rules in
    cost ∙ moved_by_table c.args.sizes.now c.args.cuts.now c.in_ok-naming.naming c.in_ok-table.table c.requires.blocks c.in_ok-table.ensures.table c.in_ok-naming.ensures.naming

pub returns-clause-bounded : goal.returns-clause-bounded
returns-clause-bounded g c =
    bounded_by_table c.args.sizes.now c.args.cuts.now c.in_ok-naming.prices.u c.in_ok-naming.prices.v c.in_ok-table.table
    (subst IsTable c.table.view_is c.table.invariant) c.in_ok-table.ensures.table c.in_ok-naming.ensures.bounded
