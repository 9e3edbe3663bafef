use Rattle.std.proofs.Common.{◌≡◌, arith}
use Rattle.rts_core.proofs.Openings.{none_made, replicate_more}
use Rattle.rts_core.proofs.opening.opening_queues.Goals as goal

pub loop-q-init : goal.loop-q-init
loop-q-init g c = c.new-made.ensures.items

pub returns-in_err-push : goal.returns-in_err-push
returns-in_err-push g c = record { value = none_made _ _ c.from_residual.ensures.0 }

pub loop-q-preserved : goal.loop-q-preserved
loop-q-preserved g c = replicate_more c.loop-q._q c.new.result c.loop-q.made.items c.push.new.self.items c.loop-q.invariant c.new.ensures.made c.in_ok-push.ensures.items

pub returns : goal.returns
returns g c = let e : c.loop-q._q ≡ c.args.pes = omega arith in record { value = rw (← e) c.loop-q.invariant }
