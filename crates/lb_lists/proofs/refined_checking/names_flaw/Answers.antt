use Rattle.std.proofs.Common.{length, ap, refl, subst, ◌∙◌}
use Rattle.std.specs.Prelude.{MatchOption}
use Rattle.lb_lists.specs.Claims.{IsFlawTold, IsToldRight}
use Rattle.lb_lists.specs.RefinedClaims.{RefinedClaimed}
use Rattle.lb_lists.proofs.RefinedClaims.{in_names, in_told}
use Rattle.lb_lists.proofs.refined_checking.names_flaw.Goals as goal

pub returns-in-Err : goal.returns-in-Err
returns-in-Err g c run loads sizes =
    in_names run c.args.claim.now.decision c.sizes.result.now c.args.parts.now.refinement.cuts c.args.parts.now.naming
    c.args.parts.now.prices.u c.args.parts.now.prices.v c.in-Err.flaw
    (record {
      sizes_are = c.sizes.ensures.value ∙ sizes;
      cuts_are = c.requires.cuts;
      names_are = c.requires.naming;
      block_prices_are = c.requires.block_prices;
      pe_prices_are = c.requires.pe_prices;
    }) c.in-Err.ensures.first_flaw

pub returns-in-Ok : goal.returns-in-Ok
returns-in-Ok g c run loads sizes =
    in_told run c.args.claim.now.decision c.sizes.result.now c.args.parts.now.refinement.cuts c.args.parts.now.naming
    c.args.parts.now.prices.u c.args.parts.now.prices.v c.in-Ok.moved c.len.result c.flaw_told.result
    (record {
      sizes_are = c.sizes.ensures.value ∙ sizes;
      cuts_are = c.requires.cuts;
      names_are = c.requires.naming;
      block_prices_are = c.requires.block_prices;
      pe_prices_are = c.requires.pe_prices;
    }) (c.in-Ok.ensures.exact.0 refl)
    c.in-Ok.ensures.moved (c.len.ensures.value ∙ ap length (c.loads.ensures.value ∙ loads))
    (subst (λ (k : RefinedClaimed). MatchOption c.flaw_told.result (IsToldRight c.in-Ok.moved c.len.result k.decision)
    (IsFlawTold c.in-Ok.moved c.len.result k.decision)) c.claim.view_is c.flaw_told.ensures)
