use Rattle.std.proofs.Common.{◌<◌, ℕ, arith, subst}
use Rattle.std.specs.Prelude.{All}
use Rattle.std.proofs.lemmas.List.{take_all}
use Rattle.std.proofs.lemmas.List.Elements.{All-more}
use Rattle.run_checkpoint.proofs.limits.are_below.Goals as goal

pub loop-place-preserved : goal.loop-place-preserved
loop-place-preserved c =
    let below : c.place-item.result < c.args.pes = omega (arith, c.get.ensures.value, c.if-get-pes.false) in
    All-more (λ (p : ℕ). p < c.args.pes) c.args.places.now c.loop-place.place-index c.place-item.result c.loop-place-test.true c.loop-place.invariant
    (subst (λ (p : ℕ). p < c.args.pes) c.place-item.is below)

pub returns : goal.returns
returns c =
    subst (All (λ (p : ℕ). p < c.args.pes)) (take_all c.loop-place.place-index c.args.places.now c.loop-place-test.false) c.loop-place.invariant
