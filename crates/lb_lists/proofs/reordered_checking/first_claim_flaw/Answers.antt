use Rattle.lb_lists.proofs.ReorderedClaims.{flaw_of_reordered}
use Rattle.lb_lists.proofs.reordered_checking.first_claim_flaw.Goals as goal

pub returns-in-Err : goal.returns-in-Err
returns-in-Err g c run thousandths loads sizes reordered =
    flaw_of_reordered _ run c.args.pes thousandths c.args.claim.now _ _ _ c.in-Err.flaw loads sizes reordered c.in-Err.ensures.first_flaw
