use Rattle.std.proofs.Common.{ap, arith, length}
use Rattle.pe_state.specs.Pes.{PeView}
use Rattle.rts_core.specs.Places.{letters_at}
use Rattle.rts_core.proofs.Counts.{held_rest, held_end}
use Rattle.rts_core.proofs.account.held_by.Goals as goal

pub held_on-held-requires : goal.held_on-held-requires
held_on-held-requires g c =
    let next = held_rest c.args.pes.now c.loop-pe.pe-index c.pe-item.result (omega arith) c.pe-item.is in
    let same = ap (λ (p : PeView g.row.C.Denot). length (letters_at p)) c.as_end.ensures.value in
    record { few = omega (arith, c.loop-pe.invariant, c.requires.few, same, next) }

pub overflow_add-held : goal.overflow_add-held
overflow_add-held g c =
    let next = held_rest c.args.pes.now c.loop-pe.pe-index c.pe-item.result (omega arith) c.pe-item.is in
    let same = ap (λ (p : PeView g.row.C.Denot). length (letters_at p)) c.as_end.ensures.value in
    omega (arith, c.loop-pe.invariant, c.requires.few, c.held_on-held.ensures.value, same, next)

pub loop-pe-preserved : goal.loop-pe-preserved
loop-pe-preserved g c =
    let next = held_rest c.args.pes.now c.loop-pe.pe-index c.pe-item.result (omega arith) c.pe-item.is in
    let same = ap (λ (p : PeView g.row.C.Denot). length (letters_at p)) c.as_end.ensures.value in
    omega (arith, c.loop-pe.invariant, c.held_on-held.ensures.value, same, next)

pub returns : goal.returns
returns g c = record { value = omega (arith, c.loop-pe.invariant, held_end c.args.pes.now c.loop-pe.pe-index (omega arith)) }
