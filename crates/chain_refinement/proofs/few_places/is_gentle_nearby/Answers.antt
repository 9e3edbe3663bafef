use Rattle.std.proofs.Common.{◌+◌, length, arith}
use Rattle.std.proofs.lemmas.Bool.{OnTrue_at, OnTrue_from}
use Rattle.chain_refinement.specs.Internal.{AllGentle}
use Rattle.chain_refinement.proofs.FewPlaces.{few_are_enough}
use Rattle.chain_refinement.proofs.few_places.is_gentle_nearby.Goals as goal

pub returns : goal.returns
returns g c =
    let claim = c.args.claim.now in
    let present = c.args.present.now in
    record {
      gentle = OnTrue_from c.is_gentle_walk.result (AllGentle claim c.args.b (length claim.loads + 1)) (λ walked.
          few_are_enough claim present c.args.b c.last_rise.result c.climbed_to.result.height c.args.base c.climbed_to-low.result
          c.requires.claimed c.requires.order c.requires.inside c.requires.base c.climbed_to-low.ensures.height
          c.climbed_to.ensures.height (omega (arith, c.if-low-climbed_to.false)) (omega (arith, c.if-base-cut.false))
          c.last_rise.ensures.onward (OnTrue_at walked c.is_gentle_walk.ensures.walked));
    }
