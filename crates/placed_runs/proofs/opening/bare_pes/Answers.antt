use Rattle.std.proofs.Common.{◌≡◌, arith}
use Rattle.rts_core.proofs.Openings.{pes_more}
use Rattle.placed_runs.proofs.opening.bare_pes.Goals as goal

pub loop-q-preserved : goal.loop-q-preserved
loop-q-preserved g c =
    pes_more c.args.n c.loop-q.q c.pe_at-me.result c.loop-q.made.items c.push.new.self.items c.new.result c.in_ok-push.ensures.items
    c.loop-q.invariant c.new.ensures.value c.pe_at-me.ensures.value

pub returns : goal.returns
returns g c = let e : c.loop-q.q ≡ c.args.pes = omega arith in record { value = rw (← e) c.loop-q.invariant }
