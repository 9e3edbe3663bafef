use Rattle.std.proofs.Common.{slice_index, arith}
use Rattle.block_assignment.specs.Table.{cost_at}
use Rattle.block_assignment.proofs.Sums.{total_more}
use Rattle.block_assignment.proofs.costs.Costs.cost_of.Goals as goal

pub loop-b-preserved : goal.loop-b-preserved
loop-b-preserved c =
    record {
      value = omega (arith, c.loop-b.invariant.value, c.cost-total.ensures.value, total_more c.loop-b.b (λ b. cost_at c.args.self.now b (slice_index c.args.names.now b)));
      small = omega (arith, c.loop-b.invariant.small, c.cost-total.ensures.small);
    }
