use Rattle.std.proofs.Common.{◌≡◌, rules, subst}
use Rattle.lb_certificates.specs.Chain.{peak}
use Rattle.chain_refinement.specs.Flaws.{HasRefinementFlaw, IsFirstRefinementFlaw}
use Rattle.chain_refinement.specs.Orders.{IsPresentOrder}
use Rattle.chain_refinement.specs.Refinement.{IsRefinement}
use Rattle.lb_lists.specs.Runs.{sizes_of}
use Rattle.lb_lists.proofs.RefinedClaims.{first_refinement, up_to_names}
use Rattle.lb_lists.proofs.refined_checking.first_refined_flaw.Goals as goal

pub returns-in-Err : goal.returns-in-Err
returns-in-Err g c run thousandths loads sizes refinement =
    let first = subst (λ l. IsFirstRefinementFlaw (HasRefinementFlaw l c.args.snapshot.now.sizes c.args.pes c.args.parts.now.refinement)
    c.in-Err.flaw) loads c.in-Err.ensures.first_flaw in
    let on_run = subst (λ s. IsFirstRefinementFlaw (HasRefinementFlaw run.loads s c.args.pes c.args.parts.now.refinement) c.in-Err.flaw) sizes first in
    first_refinement _ run.loads (sizes_of run) c.args.pes thousandths c.args.claim.now c.in-Err.flaw
    (subst (λ r. IsFirstRefinementFlaw (HasRefinementFlaw run.loads (sizes_of run) c.args.pes r) c.in-Err.flaw) refinement on_run)

pub returns : goal.returns
returns g c run thousandths loads sizes refinement =
    let s = c.args.snapshot.now in
    let claim = c.args.claim.now in
    let right : IsRefinement s.loads s.sizes c.args.pes c.args.parts.now.refinement = search rules in
    let order : IsPresentOrder s.sizes c.args.pes claim.order claim.present = search rules in
    let heavy : claim.decision.bottleneck ≡ peak s.loads claim.decision.cuts = search rules in
    c.flaw_of_names.ensures run thousandths loads sizes
    (up_to_names g.row.A.Denot run c.args.pes thousandths claim s.loads s.sizes c.args.parts.now.refinement loads sizes refinement right order heavy)
