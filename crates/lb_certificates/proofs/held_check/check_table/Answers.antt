use Rattle.std.proofs.lemmas.Result.{err_from_is_err_and}
use Rattle.lb_certificates.proofs.held_check.check_table.Goals as goal

pub returns-in_err-check_table_names-clause-first_flaw : goal.returns-in_err-check_table_names-clause-first_flaw
returns-in_err-check_table_names-clause-first_flaw c =
    let refused = err_from_is_err_and c.from_residual.result c.from_residual.ensures.1 in
    rw (refused.1, refused.2) (c.in_err-check_table_names.ensures.first_flaw c.args.held.now c.args.u.now c.args.v.now)
