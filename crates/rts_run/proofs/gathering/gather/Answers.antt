use Rattle.std.proofs.Common.{◌∙◌, arith, ap, length, map}
use Rattle.pe_worker.specs.Causes.{HasCause}
use Rattle.run_account.proofs.Passing.{next_is, rest_is, counted_more, more_in_order}
use Rattle.rts_run.proofs.Faults.{next_fault, last_fault, lowest_of_all, either_fault}
use Rattle.rts_run.specs.Outcomes.{lower_fault}
use Rattle.rts_run.proofs.gathering.gather.Goals as goal

pub loop-next-preserved : goal.loop-next-preserved
loop-next-preserved g c =
    let i = c.loop-next.invariant in
    let is = c.in-Some.ensures.taken in
    let others = c.loop-next.others.items in
    let left = c.take_next.new.left.items in
    let n = counted_more c.loop-next.gathered.ends c.with-gathered.result.ends _ c.with-gathered.ensures.ends in
    let me = next_is (λ w. w.seated.pe.me) (length c.loop-next.gathered.ends) c.in-Some.next left others is i.in_order in
    record {
      gathered = more_in_order (λ pe. pe.me) c.into_parts-seated-in-Some.result.0.pe c.loop-next.gathered.ends c.with-gathered.result.ends
          c.with-gathered.ensures.ends (ap (λ s. s.pe.me) c.into_parts-seated-in-Some.ensures.seated ∙ me) i.gathered;
      in_order = rw n (rest_is (λ w. w.seated.pe.me) (length c.loop-next.gathered.ends) c.in-Some.next left others is i.in_order);
      counted = omega (arith, i.counted, n, ap length is);
      wide = rw c.with-gathered.ensures.room i.wide;
      lowest = next_fault c.loop-next.fault c.in-Some.next.fault c.lower_fault-fault.result (map (λ w. w.fault) others) (map (λ w. w.fault) left) _
          (ap (map (λ w. w.fault)) is) (c.lower_fault-fault.ensures.value ∙ ap (lower_fault c.loop-next.fault) c.into_parts-seated-in-Some.ensures.fault) i.lowest;
      cause = either_fault (HasCause g.C.Chare.step g.C.Pup.pack g.C.Chare.refuses g.H.Openings.opened) c.loop-next.fault
          c.into_parts-seated-in-Some.result.1 c.lower_fault-fault.result c.lower_fault-fault.ensures.value i.cause c.into_parts-seated-in-Some.ensures.cause;
    }

pub returns-clause-fault : goal.returns-clause-fault
returns-clause-fault g c =
    last_fault c.loop-next.fault (map (λ w. w.fault) c.loop-next.others.items) _ (ap (map (λ w. w.fault)) c.in_default.ensures.taken.0) c.loop-next.invariant.lowest
    ∙ lowest_of_all c.args.first.fault (map (λ w. w.fault) c.args.others.items)
