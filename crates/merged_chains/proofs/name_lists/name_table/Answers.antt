use Rattle.std.proofs.Common.{◌≡◌, rules, subst}
use Rattle.block_assignment.specs.Table.{IsMatrix}
use Rattle.merged_chains.proofs.HeldNames.{bounded_of_held, least_of_blocks, least_of_held, moved_of_blocks, moved_of_held, proves_of_held}
use Rattle.merged_chains.proofs.name_lists.name_table.Goals as goal

pub returns-clause-least : goal.returns-clause-least
returns-clause-least g c =
    let names_are : c.copy_from_slice.new.self ≡ c.in_ok-naming.naming = search rules in
    rw names_are (least_of_held c.args.pes c.args.held.now c.in_ok-naming.naming c.in_ok-matrix.matrix c.in_ok-matrix.ensures.exact c.in_ok-naming.ensures.least_naming)

pub returns-clause-moved : goal.returns-clause-moved
returns-clause-moved g c =
    let names_are : c.copy_from_slice.new.self ≡ c.in_ok-naming.naming = search rules in
    rw names_are (moved_of_held c.args.pes c.args.held.now c.in_ok-naming.naming c.in_ok-matrix.matrix c.moved_by-moved.result
    c.in_ok-matrix.ensures.exact c.in_ok-naming.ensures.naming (search rules))

pub returns-clause-proved : goal.returns-clause-proved
returns-clause-proved g c =
    let block_prices_are : c.copy_from_slice-2.new.self ≡ c.in_ok-naming.prices.u = search rules in
    let pe_prices_are : c.copy_from_slice-3.new.self ≡ c.in_ok-naming.prices.v = search rules in
    rw (block_prices_are, pe_prices_are) (proves_of_held c.args.pes c.args.held.now c.in_ok-naming.naming c.in_ok-matrix.matrix
    c.moved_by-moved.result c.in_ok-naming.prices.u c.in_ok-naming.prices.v c.in_ok-matrix.ensures.exact c.in_ok-naming.ensures.naming
    (search rules) c.in_ok-naming.ensures.proved)

pub returns-clause-bounded : goal.returns-clause-bounded
returns-clause-bounded g c =
    let block_prices_are : c.copy_from_slice-2.new.self ≡ c.in_ok-naming.prices.u = search rules in
    let pe_prices_are : c.copy_from_slice-3.new.self ≡ c.in_ok-naming.prices.v = search rules in
    rw (block_prices_are, pe_prices_are) (bounded_of_held c.args.pes c.args.held.now c.in_ok-matrix.matrix c.in_ok-naming.prices.u
    c.in_ok-naming.prices.v c.in_ok-matrix.ensures.exact (subst IsMatrix c.matrix.view_is c.matrix.invariant) c.in_ok-naming.ensures.bounded)

pub returns-clause-of_blocks : goal.returns-clause-of_blocks
returns-clause-of_blocks g c = λ sizes cuts table. least_of_blocks c.args.pes sizes cuts c.args.held.now c.copy_from_slice.new.self
    c.in_ok-matrix.ensures.accepted.square.counted table (returns-clause-least g c)

pub returns-clause-moved_of_blocks : goal.returns-clause-moved_of_blocks
returns-clause-moved_of_blocks g c =
    let least = returns-clause-least g c in
    λ sizes cuts table. moved_of_blocks c.args.pes sizes cuts c.args.held.now c.copy_from_slice.new.self c.moved_by-moved.result
    c.in_ok-matrix.ensures.accepted.square.counted table least.naming (returns-clause-moved g c)
