use Rattle.std.proofs.Common.{◌∙◌, ap, sym, subst, length, ◌≡◌, arith}
use Rattle.load_report.proofs.Placements.{planned_placed}
use Rattle.load_report.specs.Figures.{IsPlacement, planned_places}
use Rattle.load_report.proofs.places.planned_places.Goals as goal

pub returns-clause-placed : goal.returns-clause-placed
returns-clause-placed g c =
    let loads = c.args.snapshot.now.loads in
    let sizes = c.args.snapshot.now.sizes in
    let d = c.args.decision.now in
    let all : c.loop-i.i ≡ length sizes = omega (arith, c.loop-i.auto.i-end, c.loop-i-test.false, c.len-n.ensures.value, ap length c.sizes.ensures.value) in
    let made = c.loop-i.invariant ∙ ap (planned_places d.division.cuts d.naming) all in
    subst (λ places. IsPlacement loads places c.args.pes) (sym made) (planned_placed loads sizes c.args.pes d c.requires c.sizes.ensures.paired)
