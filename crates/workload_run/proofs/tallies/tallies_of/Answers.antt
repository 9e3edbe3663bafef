use Rattle.std.proofs.Common.{◌≡◌, arith, ap}
use Rattle.workload_run.specs.Tallies.{tally_of}
use Rattle.workload_run.proofs.Collecting.{one_more}
use Rattle.workload_run.proofs.tallies.tallies_of.Goals as goal

pub loop-i-preserved : goal.loop-i-preserved
loop-i-preserved g c =
    one_more (tally_of c.args.workload.now) c.loop-i.i c.loop-i.tallies.items c.push.new.self.items c.in_ok-tally_of.field-0
    c.in_ok-push.ensures.items c.in_ok-tally_of.ensures.value c.loop-i.invariant

pub returns : goal.returns
returns g c =
    let chares : c.workload.inside.chares ≡ c.args.workload.now.chares = ap (λ w. w.chares) c.workload.view_is in
    let end : c.loop-i.i ≡ c.args.workload.now.chares = omega (arith, chares) in
    record { value = rw (← end) c.loop-i.invariant }
