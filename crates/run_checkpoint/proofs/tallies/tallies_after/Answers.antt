use Rattle.std.proofs.Common.{◌≡◌, arith, ap, map, subst}
use Rattle.std.specs.List.{range_with_len}
use Rattle.run_checkpoint.specs.Tallies.{tally_after}
use Rattle.run_checkpoint.proofs.Collecting.{one_more}
use Rattle.run_checkpoint.proofs.tallies.tallies_after.Goals as goal

pub loop-i-preserved : goal.loop-i-preserved
loop-i-preserved g c =
    one_more (tally_after c.args.workload.now c.args.rounds) c.loop-i.i c.loop-i.tallies.items c.push.new.self.items c.in_ok-tally_after.field-0
    c.in_ok-push.ensures.items c.in_ok-tally_after.ensures.value c.loop-i.invariant

pub returns : goal.returns
returns g c =
    let chares : c.workload.inside.chares ≡ c.args.workload.now.chares = ap (λ w. w.chares) c.workload.view_is in
    let end : c.loop-i.i ≡ c.args.workload.now.chares = omega (arith, chares) in
    record { value = subst (λ n. c.loop-i.tallies.items ≡ map (tally_after c.args.workload.now c.args.rounds) (range_with_len 0 n)) end c.loop-i.invariant }
