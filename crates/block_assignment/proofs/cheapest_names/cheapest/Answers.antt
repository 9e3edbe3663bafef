use Rattle.block_assignment.specs.declared.limits.TheConstants.MatrixLimits.{BYTES}
use Rattle.block_assignment.proofs.Prices.{greatest_small}
use Rattle.block_assignment.proofs.cheapest_names.cheapest.Goals as goal

pub returns-then-name_while_short-clause-costs_small : goal.returns-then-name_while_short-clause-costs_small
returns-then-name_while_short-clause-costs_small g c = greatest_small c.args.table.now.costs BYTES c.blocks-blocks.ensures.within_limits.small
