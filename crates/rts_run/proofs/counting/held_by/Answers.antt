use Rattle.std.proofs.Common.{arith}
use Rattle.rts_core.proofs.Counts.{held_rest, held_end}
use Rattle.rts_run.proofs.counting.held_by.Goals as goal

pub held_on-held-requires : goal.held_on-held-requires
held_on-held-requires g c =
    let next = held_rest c.args.ends.now c.loop-end.end-index c.end-item.result (omega arith) c.end-item.is in
    record { few = omega (arith, c.loop-end.invariant, c.requires.few, next) }

pub overflow_add-held : goal.overflow_add-held
overflow_add-held g c =
    let next = held_rest c.args.ends.now c.loop-end.end-index c.end-item.result (omega arith) c.end-item.is in
    omega (arith, c.loop-end.invariant, c.requires.few, c.held_on-held.ensures.value, next)

pub loop-end-preserved : goal.loop-end-preserved
loop-end-preserved g c =
    let next = held_rest c.args.ends.now c.loop-end.end-index c.end-item.result (omega arith) c.end-item.is in
    omega (arith, c.loop-end.invariant, c.held_on-held.ensures.value, next)

pub returns : goal.returns
returns g c = record { value = omega (arith, c.loop-end.invariant, held_end c.args.ends.now c.loop-end.end-index (omega arith)) }
