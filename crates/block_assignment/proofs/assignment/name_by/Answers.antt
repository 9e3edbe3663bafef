use Rattle.std.proofs.Common.{◌≡◌, arith, ◌∙◌}
use Rattle.lb_certificates.proofs.Duality.{price_below}
use Rattle.block_assignment.specs.Table.{cost_at}
use Rattle.block_assignment.proofs.Trees.{written}
use Rattle.block_assignment.proofs.assignment.name_by.Goals as goal

pub returns-clause-naming : goal.returns-clause-naming
returns-clause-naming g c = rw c.new-3.ensures.value c.in_ok-names.ensures.naming

pub returns-clause-proved : goal.returns-clause-proved
returns-clause-proved g c =
    let u : c.new.result ≡ c.name_and_price.new.u = c.new.ensures.value ∙ written _ _ _ (omega (arith, c.name_and_price.auto.u, c.deref_mut.ensures.len, c.in_ok-u.ensures.len)) in
    let v : c.new-2.result ≡ c.name_and_price.new.v = c.new-2.ensures.value
    ∙ written _ _ _ (omega (arith, c.name_and_price.auto.v, c.deref_mut-2.ensures.len, c.in_ok-v.ensures.len)) in
    rw (u, v, c.new-3.ensures.value) c.in_ok-names.ensures.proved

pub returns-clause-bounded : goal.returns-clause-bounded
returns-clause-bounded g c =
    let u : c.new.result ≡ c.name_and_price.new.u = c.new.ensures.value ∙ written _ _ _ (omega (arith, c.name_and_price.auto.u, c.deref_mut.ensures.len, c.in_ok-u.ensures.len)) in
    let v : c.new-2.result ≡ c.name_and_price.new.v = c.new-2.ensures.value
    ∙ written _ _ _ (omega (arith, c.name_and_price.auto.v, c.deref_mut-2.ensures.len, c.in_ok-v.ensures.len)) in
    rw (u, v) c.in_ok-names.ensures.bounded

pub returns-clause-cheapest : goal.returns-clause-cheapest
returns-clause-cheapest g c = λ others naming.
    price_below c.args.table.now.blocks (cost_at c.args.table.now) _ c.new.result c.new-2.result others (returns-clause-proved g c) naming

pub returns-clause-least_naming : goal.returns-clause-least_naming
returns-clause-least_naming g c = rw c.new-3.ensures.value c.in_ok-names.ensures.least_naming
