use Rattle.std.proofs.lemmas.Result.{err_from_is_err_and, on_ok_weaker}
use Rattle.lb_certificates.specs.Naming.{IsNamedWithin}
use Rattle.lb_certificates.proofs.BlockSums.{cheapest_from_named}
use Rattle.lb_certificates.proofs.FirstNamingFlaws.{FlawOf, named_where_ok, ok_where_named}
use Rattle.lb_certificates.proofs.NoFlaws.{refused_exactly}
use Rattle.lb_certificates.proofs.NoNamingFlaws.{named_flawless}
use Rattle.lb_certificates.proofs.naming_check.check_claim.Goals as goal

pub returns-in_err-check_cuts-clause-exact : goal.returns-in_err-check_cuts-clause-exact
returns-in_err-check_cuts-clause-exact c =
    let claim = c.args.claim.now in
    let named = IsNamedWithin claim.most claim.sizes claim.cuts claim.names claim.u claim.v in
    refused_exactly (FlawOf claim) named c.from_residual.result c.in_err-check_cuts.field-0.0
    (named_flawless claim.sizes claim.cuts claim.names claim.u claim.v) c.from_residual.ensures.0 c.in_err-check_cuts.ensures.first_flaw

pub returns-in_err-check_cuts-clause-first_flaw : goal.returns-in_err-check_cuts-clause-first_flaw
returns-in_err-check_cuts-clause-first_flaw c =
    let refused = err_from_is_err_and c.from_residual.result c.from_residual.ensures.1 in
    rw (refused.1, refused.2) c.in_err-check_cuts.ensures.first_flaw

pub returns-in_err-check_names-clause-exact : goal.returns-in_err-check_names-clause-exact
returns-in_err-check_names-clause-exact c =
    let claim = c.args.claim.now in
    let named = IsNamedWithin claim.most claim.sizes claim.cuts claim.names claim.u claim.v in
    refused_exactly (FlawOf claim) named c.from_residual-in_err-check_names.result c.in_err-check_names.field-0.0
    (named_flawless claim.sizes claim.cuts claim.names claim.u claim.v) c.from_residual-in_err-check_names.ensures.0 c.in_err-check_names.ensures.first_flaw

pub returns-in_err-check_names-clause-first_flaw : goal.returns-in_err-check_names-clause-first_flaw
returns-in_err-check_names-clause-first_flaw c =
    let refused = err_from_is_err_and c.from_residual-in_err-check_names.result c.from_residual-in_err-check_names.ensures.1 in
    rw (refused.1, refused.2) c.in_err-check_names.ensures.first_flaw

pub returns-clause-exact : goal.returns-clause-exact
returns-clause-exact c =
    let claim = c.args.claim.now in (
      named_where_ok claim.sizes claim.cuts claim.names claim.u claim.v c.check_prices.result c.in_ok-check_cuts.ensures.blocks
          c.in_ok-check_names.ensures.naming c.check_prices.ensures.proved,
      ok_where_named claim.sizes claim.cuts claim.names claim.u claim.v c.check_prices.result c.check_prices.ensures.first_flaw,
    )

pub returns-clause-cheapest : goal.returns-clause-cheapest
returns-clause-cheapest c =
    let claim = c.args.claim.now in
    on_ok_weaker c.check_prices.result (λ proved. cheapest_from_named claim.sizes claim.cuts claim.names claim.u claim.v
    (record { blocks = c.in_ok-check_cuts.ensures.blocks; naming = c.in_ok-check_names.ensures.naming; proved = proved })) c.check_prices.ensures.proved
