use Rattle.std.proofs.Common.{ap, ◌∙◌}
use Rattle.lb_lists.specs.RefinedClaims.{refinement_of}
use Rattle.lb_lists.proofs.RefinedClaims.{best_where_no_flaw}
use Rattle.lb_lists.proofs.refined_checking.check_refined.Goals as goal

pub returns-clause-best : goal.returns-clause-best
returns-clause-best g c none =
    let refinement = c.in-Ok-refined_parts.ensures.refinement ∙ ap (λ t. refinement_of t c.args.claim.now) c.in-Some.ensures.some in
    let exact = c.first_refined_flaw-flaw.ensures c.args.run.now c.args.thousandths c.in-Ok.ensures.loads c.in-Ok.ensures.sizes refinement in
    best_where_no_flaw c.args.run.now c.args.pes c.args.thousandths c.args.claim.now c.first_refined_flaw-flaw.result c.in-Ok.ensures.asked.is_run exact none
