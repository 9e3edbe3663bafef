use Rattle.std.proofs.Common.{◌≡◌, ◌-◌, arith}
use Rattle.run_trace.proofs.Adding.{posts_more}
use Rattle.run_trace.proofs.shown.push_posts.Goals as goal

pub loop-number-preserved : goal.loop-number-preserved
loop-number-preserved g c = (
  rw (c.in_ok-push.ensures.items, c.loop-number.invariant.0) (posts_more c.args.events.now.items c.args.at c.get-pe.result c.args.first c.loop-number.number (omega arith)),
  omega (arith, c.loop-number-test.true, c.loop-number.auto.number),
)

pub returns : goal.returns
returns g c =
    let last : c.loop-number.number - c.args.first ≡ c.args.end - c.args.first = omega (arith, c.loop-number-test.false, c.loop-number.invariant.1) in
    record { posts = rw (← last, ← c.get-pe.ensures.value) c.loop-number.invariant.0 }
