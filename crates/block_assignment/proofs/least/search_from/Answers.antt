use Rattle.std.proofs.Common.{◌≡◌, length, arith, refl}
use Rattle.block_assignment.proofs.BlockBits.{no_member}
use Rattle.block_assignment.proofs.Namings.{total_taken}
use Rattle.block_assignment.proofs.Reaches.{search_starts, search_joins, joins_less, search_moves}
use Rattle.block_assignment.specs.Least.{member}
use Rattle.block_assignment.proofs.least.search_from.Goals as goal

pub loop-j-init : goal.loop-j-init
loop-j-init c =
    search_starts c.args.takers.now c.args.names.now c.args.b _ _ _ c.requires.inside
    (λ j has. ((c.write_later.ensures.later j has).0, omega (arith, (c.write_later.ensures.later j has).1, c.count.ensures.value)))
    (λ j after inside. c.write_later.ensures.all j after (omega (arith, inside, c.count.ensures.value)))
    (no_member _ (λ w inside. c.fill.ensures.clones w 0 (omega (arith, inside, c.fill.ensures.len)) refl))

pub loop-j-preserved-in-Some : goal.loop-j-preserved-in-Some
loop-j-preserved-in-Some c =
    search_joins c.args.takers.now c.args.names.now c.args.b c.loop-j.i c.in-Some.j _ _ _ _ _ c.loop-j.invariant (omega arith)
    c.in-Some.ensures.1 c.in-Some.ensures.2 c.remove.ensures.here c.remove.ensures.others c.insert.ensures.here c.insert.ensures.others

pub loop-j-smaller-in-Some : goal.loop-j-smaller-in-Some
loop-j-smaller-in-Some c =
    joins_less c.args.takers.now c.args.names.now c.args.b c.loop-j.i c.in-Some.j _ _ _ _ _ c.loop-j.invariant c.in-Some.ensures.1
    c.remove.ensures.here c.remove.ensures.others c.insert.ensures.here c.insert.ensures.others

pub loop-j-preserved : goal.loop-j-preserved
loop-j-preserved c =
    search_moves c.args.takers.now c.args.names.now c.args.b c.loop-j.i c.in-Some-first_common.j _ _ _ _ c.loop-j.invariant
    (λ k inside left. c.in_default.ensures k left) c.in-Some-first_common.ensures.1 c.remove-in-loop-j.ensures.others c.remove-in-loop-j.ensures.here

pub loop-j-smaller : goal.loop-j-smaller
loop-j-smaller c =
    let waits : member c.loop-j.waiting c.in-Some-first_common.j ≡ 1 = c.in-Some-first_common.ensures.1 in
    omega (
      arith,
      total_taken (length c.args.takers.now) (member c.loop-j.waiting) (member c.remove-in-loop-j.new.set)
          c.in-Some-first_common.j (c.loop-j.invariant.opened c.in-Some-first_common.j waits).inside waits c.remove-in-loop-j.ensures.here
          c.remove-in-loop-j.ensures.others,
    )
