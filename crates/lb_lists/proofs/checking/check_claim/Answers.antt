use Rattle.std.proofs.Common.{subst}
use Rattle.std.specs.Prelude.{MatchOption}
use Rattle.lb_lists.specs.Claims.{IsFirstFlaw, IsRightClaim}
use Rattle.lb_lists.proofs.Claims.{best_where_none}
use Rattle.lb_lists.proofs.ShortClaims.{whole_claim}
use Rattle.lb_lists.proofs.checking.check_claim.Goals as goal

pub returns-clause-exact : goal.returns-clause-exact
returns-clause-exact g c =
    whole_claim c.args.run.now c.args.pes c.args.claim.now c.first_flaw-flaw.result
    (subst (λ claim. MatchOption c.first_flaw-flaw.result (IsRightClaim c.args.run.now c.args.pes claim)
    (IsFirstFlaw c.args.run.now c.args.pes claim)) c.shorten-short.ensures c.first_flaw-flaw.ensures)

pub returns-clause-best : goal.returns-clause-best
returns-clause-best g c none =
    best_where_none c.args.run.now c.args.pes c.args.claim.now c.first_flaw-flaw.result (returns-clause-exact g c) none
