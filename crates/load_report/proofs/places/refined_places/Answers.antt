use Rattle.std.proofs.Common.{◌∙◌, ap, sym, subst, length, ◌≡◌, arith}
use Rattle.lb_refinement.specs.Refined.{refined_cuts, refined_names}
use Rattle.load_report.proofs.RefinedPlaces.{refined_placed}
use Rattle.load_report.specs.Figures.{IsPlacement, planned_places}
use Rattle.load_report.proofs.places.refined_places.Goals as goal

pub returns-clause-placed : goal.returns-clause-placed
returns-clause-placed g c =
    let loads = c.args.snapshot.now.loads in
    let sizes = c.args.snapshot.now.sizes in
    let r = c.args.decision.now in
    let all : c.loop-i.i ≡ length sizes = omega (arith, c.loop-i.auto.i-end, c.loop-i-test.false, c.len-n.ensures.value, ap length c.sizes.ensures.value) in
    let made = c.loop-i.invariant ∙ ap (planned_places (refined_cuts r) (refined_names r)) all in
    subst (λ places. IsPlacement loads places c.args.pes) (sym made) (refined_placed loads sizes c.args.pes r c.requires c.sizes.ensures.paired)
