use Rattle.std.proofs.Common.{◌<◌, length, arith, refl}
use Rattle.std.proofs.lemmas.Bool.{both_ways}
use Rattle.lb_certificates.specs.Naming.{blocks_between}
use Rattle.lb_lists.proofs.Blocks.{all_of_block, one_more_right}
use Rattle.lb_lists.proofs.places.are_places.Goals as goal

pub loop-b-preserved : goal.loop-b-preserved
loop-b-preserved c =
    let inside : c.loop-b.b < blocks_between c.args.cuts.now = omega (arith, c.loop-b-test.true, c.requires.named) in
    one_more_right (length c.args.new_places.now) (blocks_between c.args.cuts.now) c.args.cuts.now c.args.names.now c.args.new_places.now
    c.loop-b.b c.requires.divides inside refl (c.are_all.ensures.0 c.if-not-are_all.false) c.loop-b.invariant

pub returns-then-not-are_all : goal.returns-then-not-are_all
returns-then-not-are_all c placed =
    let inside : c.loop-b.b < blocks_between c.args.cuts.now = omega (arith, c.loop-b-test.true, c.requires.named) in
    both_ways c.are_all.result c.if-not-are_all.true (c.are_all.ensures.1
    (all_of_block (length c.args.new_places.now) (blocks_between c.args.cuts.now) c.args.cuts.now c.args.names.now c.args.new_places.now
    c.loop-b.b c.requires.divides inside refl placed.placed))
