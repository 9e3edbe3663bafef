use Rattle.std.proofs.Common.{ap, ◌∙◌}
use Rattle.lb_lists.specs.ReorderedClaims.{reordered_in}
use Rattle.lb_lists.proofs.ReorderedClaims.{best_where_no_flaw}
use Rattle.lb_lists.proofs.reordered_checking.check_reordered_claim.Goals as goal

pub returns-clause-best : goal.returns-clause-best
returns-clause-best g c none =
    let reordered = c.in-Ok-reordered_from.ensures ∙ ap (λ t. reordered_in c.args.pes t c.args.claim.now) c.in-Some.ensures.some in
    let exact = c.first_claim_flaw-flaw.ensures c.args.run.now c.args.thousandths c.in-Ok.ensures.loads c.in-Ok.ensures.sizes reordered in
    best_where_no_flaw c.args.run.now c.args.pes c.args.thousandths c.args.claim.now c.first_claim_flaw-flaw.result c.in-Ok.ensures.asked.is_run exact none
