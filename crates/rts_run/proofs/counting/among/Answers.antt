use Rattle.std.proofs.Common.{arith}
use Rattle.rts_core.proofs.Counts.{among_rest, among_end}
use Rattle.rts_run.proofs.counting.among.Goals as goal

pub overflow_add-letters : goal.overflow_add-letters
overflow_add-letters g c =
    let next = among_rest c.args.parcels.now c.loop-parcel.parcel-index c.parcel-item.result (omega arith) c.parcel-item.is in
    omega (arith, c.loop-parcel.invariant, c.requires.few, c.letters_held-letters.ensures.value, next)

pub loop-parcel-preserved : goal.loop-parcel-preserved
loop-parcel-preserved g c =
    let next = among_rest c.args.parcels.now c.loop-parcel.parcel-index c.parcel-item.result (omega arith) c.parcel-item.is in
    omega (arith, c.loop-parcel.invariant, c.letters_held-letters.ensures.value, next)

pub returns : goal.returns
returns g c = record { value = omega (arith, c.loop-parcel.invariant, among_end c.args.parcels.now c.loop-parcel.parcel-index (omega arith)) }
