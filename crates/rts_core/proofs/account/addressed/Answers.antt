use Rattle.std.proofs.Common.{arith}
use Rattle.rts_core.proofs.Counts.{addressed_rest, addressed_end}
use Rattle.rts_core.proofs.account.addressed.Goals as goal

pub overflow_add-letters : goal.overflow_add-letters
overflow_add-letters g c =
    let next = addressed_rest c.args.items.now c.loop-item.item-index c.item-item.result (omega arith) c.item-item.is in
    omega (arith, c.loop-item.invariant, c.requires.few, c.letters_held-letters.ensures.value, next)

pub loop-item-preserved : goal.loop-item-preserved
loop-item-preserved g c =
    let next = addressed_rest c.args.items.now c.loop-item.item-index c.item-item.result (omega arith) c.item-item.is in
    omega (arith, c.loop-item.invariant, c.letters_held-letters.ensures.value, next)

pub returns : goal.returns
returns g c = record { value = omega (arith, c.loop-item.invariant, addressed_end c.args.items.now c.loop-item.item-index (omega arith)) }
