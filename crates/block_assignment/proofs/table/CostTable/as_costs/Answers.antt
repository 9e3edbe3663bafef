use Rattle.std.proofs.Common.{List, ℕ, ap, sym, ◌∙◌, subst}
use Rattle.block_assignment.specs.Table.{IsMatrix, IsTable}
use Rattle.block_assignment.proofs.Sums.{matrix_of_table}
use Rattle.block_assignment.proofs.table.CostTable.as_costs.Goals as goal

pub new-requires : goal.new-requires
new-requires g c =
    record { matrix = subst (λ (xs : List ℕ). IsMatrix (record { blocks = c.self.inside.count; costs = xs })) (sym c.deref.ensures.value) (matrix_of_table _ c.self.invariant) }

pub returns-clause-value : goal.returns-clause-value
returns-clause-value g c =
    c.new.ensures.value ∙ ap (λ (xs : List ℕ). record { blocks = c.self.inside.count; costs = xs }) c.deref.ensures.value ∙ c.self.view_is

pub returns-clause-table : goal.returns-clause-table
returns-clause-table g c = subst IsTable c.self.view_is c.self.invariant
