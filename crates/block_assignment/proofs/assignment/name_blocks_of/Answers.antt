use Rattle.std.proofs.Common.{◌≤◌, ℕ, List, IfOk, subst}
use Rattle.lb_certificates.specs.Naming.{IsFirstCheapest, IsNaming, Proves, naming_cost}
use Rattle.block_assignment.specs.Table.{Table, cost_at, greatest, AreWithin}
use Rattle.block_assignment.proofs.assignment.name_blocks_of.Goals as goal

pub returns-clause-naming : goal.returns-clause-naming
returns-clause-naming g c =
    subst (λ (t : Table). IfOk c.name_by.result (λ answer. IsNaming t.blocks answer.0)) c.as_costs.ensures.value c.name_by.ensures.naming

pub returns-clause-proved : goal.returns-clause-proved
returns-clause-proved g c =
    subst (λ (t : Table). IfOk c.name_by.result (λ answer. Proves t.blocks (cost_at t) (naming_cost t.blocks (cost_at t) answer.0)
    answer.1.u answer.1.v)) c.as_costs.ensures.value c.name_by.ensures.proved

pub returns-clause-cheapest : goal.returns-clause-cheapest
returns-clause-cheapest g c =
    subst (λ (t : Table). IfOk c.name_by.result (λ answer. (others : List ℕ) → IsNaming t.blocks others
    → naming_cost t.blocks (cost_at t) answer.0 ≤ naming_cost t.blocks (cost_at t) others)) c.as_costs.ensures.value c.name_by.ensures.cheapest

pub returns-clause-least_naming : goal.returns-clause-least_naming
returns-clause-least_naming g c =
    subst (λ (t : Table). IfOk c.name_by.result (λ answer. IsFirstCheapest t.blocks (naming_cost t.blocks (cost_at t)) answer.0))
    c.as_costs.ensures.value c.name_by.ensures.least_naming

pub returns-clause-bounded : goal.returns-clause-bounded
returns-clause-bounded g c =
    subst (λ (t : Table). IfOk c.name_by.result (λ answer. AreWithin (greatest t.costs) answer.1.u answer.1.v)) c.as_costs.ensures.value c.name_by.ensures.bounded
