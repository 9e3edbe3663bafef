use Rattle.std.proofs.Common.{ap, arith}
use Rattle.pe_state.specs.Pes.{PeView}
use Rattle.rts_core.proofs.Counts.{posted_rest, posted_end}
use Rattle.rts_core.proofs.account.posted_by.Goals as goal

pub loop-pe-preserved : goal.loop-pe-preserved
loop-pe-preserved g c =
    let next = posted_rest c.args.pes.now c.loop-pe.pe-index c.pe-item.result (omega arith) c.pe-item.is in
    record {
      counted = omega (arith, c.loop-pe.invariant.counted, c.count-posted.ensures.value, ap (λ (p : PeView g.row.C.Denot). p.count) c.as_end.ensures.value, next);
      few = omega (arith, c.loop-pe.invariant.few, c.count-posted.ensures.few);
    }

pub returns-clause-value : goal.returns-clause-value
returns-clause-value g c = omega (arith, c.loop-pe.invariant.counted, posted_end c.args.pes.now c.loop-pe.pe-index (omega arith))
