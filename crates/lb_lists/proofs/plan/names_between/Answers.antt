use Rattle.std.proofs.Common.{rules, subst}
use Rattle.std.specs.List.{zip}
use Rattle.block_assignment.specs.Table.{IsMatrix}
use Rattle.lb_lists.proofs.ElementNames.{bounded_by_matrix, bytes_by_cost, least_by_matrix, named_by_matrix, zipped_division}
use Rattle.lb_lists.proofs.plan.names_between.Goals as goal

pub returns-clause-named : goal.returns-clause-named
returns-clause-named g c =
    named_by_matrix c.args.bytes.now c.args.places.now c.args.cuts.now c.in-Ok-name_blocks_of.naming c.in-Ok-name_blocks_of.prices.u
    c.in-Ok-name_blocks_of.prices.v c.in-Ok.matrix c.requires c.in-Ok.ensures.matrix c.in-Ok-name_blocks_of.ensures.naming
    c.in-Ok-name_blocks_of.ensures.proved

pub returns-clause-least_naming : goal.returns-clause-least_naming
returns-clause-least_naming g c =
    least_by_matrix (zip c.args.bytes.now c.args.places.now) c.args.cuts.now c.in-Ok-name_blocks_of.naming c.in-Ok.matrix
    (zipped_division c.args.bytes.now c.args.places.now c.args.cuts.now c.requires) c.in-Ok.ensures.matrix c.in-Ok-name_blocks_of.ensures.least_naming

pub returns-clause-moved : goal.returns-clause-moved
returns-clause-moved g c =
    bytes_by_cost (zip c.args.bytes.now c.args.places.now) c.args.cuts.now c.in-Ok-name_blocks_of.naming c.cost_of-moved.result
    c.in-Ok.matrix (zipped_division c.args.bytes.now c.args.places.now c.args.cuts.now c.requires) c.in-Ok.ensures.matrix
    c.in-Ok-name_blocks_of.ensures.naming (search rules)

pub returns-clause-bounded : goal.returns-clause-bounded
returns-clause-bounded g c =
    bounded_by_matrix (zip c.args.bytes.now c.args.places.now) c.args.cuts.now c.in-Ok-name_blocks_of.prices.u
    c.in-Ok-name_blocks_of.prices.v c.in-Ok.matrix (subst IsMatrix c.matrix.view_is c.matrix.invariant) c.in-Ok.ensures.matrix
    c.in-Ok-name_blocks_of.ensures.bounded
