use Rattle.std.proofs.Common.{◌≡◌, ◌+◌, ◌≤◌, length, map}
use Rattle.std.specs.Prelude.{IfSome}
use Rattle.std.specs.List.{range_with_len}
use Rattle.pe_worker.specs.Causes.{HasCause}
use Rattle.rts_run.specs.Outcomes.{lower_fault, lowest_fault}
use Rattle.rts_run.proofs.gathering.gather.Given as goal

abbrev pub invariant-loop-next : goal.invariant-loop-next
invariant-loop-next g l = record {
  gathered : map (λ pe. pe.me) l.gathered.ends ≡ range_with_len 0 (length l.gathered.ends);
  in_order : map (λ w. w.seated.pe.me) l.others.items ≡ range_with_len (length l.gathered.ends) (length l.others.items);
  counted : length l.gathered.ends + length l.others.items ≡ length l.fn.others.items + 1;
  wide : length l.fn.others.items + 1 ≤ l.gathered.room;
  lowest : lower_fault l.fault (lowest_fault (map (λ w. w.fault) l.others.items)) ≡ lower_fault l.fn.first.fault (lowest_fault (map (λ w. w.fault) l.fn.others.items));
  cause : IfSome l.fault (HasCause g.C.Chare.step g.C.Pup.pack g.C.Chare.refuses g.H.Openings.opened);
}

abbrev pub decreases-loop-next : goal.decreases-loop-next
decreases-loop-next g l = length l.others.items
