use Rattle.std.proofs.Common.{◌≡◌, ◌<◌, arith}
use Rattle.lb_strategy.specs.Moves.{planned_pe}
use Rattle.checkpointed_runs.proofs.Deciding.{one_more, value_made}
use Rattle.checkpointed_runs.proofs.checkpoints.places_by.Goals as goal

pub place_of-requires : goal.place_of-requires
place_of-requires g c =
    let same : c.unwrap-index.result ≡ c.loop-e.e = value_made c.new.result _ _ _ c.new.ensures.made c.unwrap-index.ensures in
    let below : c.unwrap-index.result < c.args.n = omega (arith, same, c.loop-e-test.true) in
    record { placed = c.requires.placed c.unwrap-index.result below }

pub loop-e-preserved : goal.loop-e-preserved
loop-e-preserved g c =
    let d = c.args.decision.now in
    let same : c.unwrap-index.result ≡ c.loop-e.e = value_made c.new.result _ _ _ c.new.ensures.made c.unwrap-index.ensures in
    one_more (λ e. planned_pe d.division.cuts d.naming e) c.loop-e.e c.unwrap-index.result c.place_of.result c.loop-e.places.items c.push.new.self.items
    c.in_ok-push.ensures.items same c.place_of.ensures.value c.loop-e.invariant
