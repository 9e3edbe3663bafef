use Rattle.block_assignment.proofs.HeldCosts.{table_of_held}
use Rattle.block_assignment.proofs.matrix.CostMatrix.of_held.Goals as goal

pub returns-clause-matrix : goal.returns-clause-matrix
returns-clause-matrix g c sizes cuts table =
    table_of_held c.args.blocks sizes cuts c.args.held.now _ c.in_ok-check_table.ensures.accepted.square.counted c.in_ok-costs.ensures.exact table
