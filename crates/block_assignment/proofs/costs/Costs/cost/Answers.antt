use Rattle.std.proofs.Common.{◌+◌, ◌*◌, slice_index, ap, ◌∙◌}
use Rattle.block_assignment.specs.Table.{Table}
use Rattle.block_assignment.proofs.costs.Costs.cost.Goals as goal

pub returns-clause-value : goal.returns-clause-value
returns-clause-value c =
    ap (λ n. slice_index c.self.inside.costs.now (c.args.b * n + c.args.p)) c.blocks-2.ensures.value
    ∙ ap (λ (t : Table). slice_index t.costs (c.args.b * c.args.self.now.blocks + c.args.p)) c.self.view_is
