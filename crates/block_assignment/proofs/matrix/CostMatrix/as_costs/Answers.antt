use Rattle.std.proofs.Common.{List, ℕ, ap, sym, ◌∙◌, subst}
use Rattle.block_assignment.specs.Table.{IsMatrix}
use Rattle.block_assignment.proofs.matrix.CostMatrix.as_costs.Goals as goal

pub new-requires : goal.new-requires
new-requires g c =
    record { matrix = subst (λ (xs : List ℕ). IsMatrix (record { blocks = c.self.inside.count; costs = xs })) (sym c.deref.ensures.value) c.self.invariant }

pub returns : goal.returns
returns g c =
    record { value = c.new.ensures.value ∙ ap (λ (xs : List ℕ). record { blocks = c.self.inside.count; costs = xs }) c.deref.ensures.value ∙ c.self.view_is }
