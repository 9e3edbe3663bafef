use Rattle.std.proofs.Common.{◌≡◌, ◌≤◌, replicate, rules}
use Rattle.std.specs.Prelude.{⊤}
use Rattle.chare_index.specs.declared.limits.TheConstants.Limits.{ROUND}
use Rattle.lb_database.specs.Refusals.{RefusesNew}
use Rattle.lb_database.specs.declared.error.DbError.TheVariants.{OutOfMemory}
use Rattle.lb_database.proofs.Refused.{passed_on}
use Rattle.lb_database.proofs.Reports.{all_missing, opening_measured}
use Rattle.lb_database.proofs.database.LoadDb.at.Goals as goal

pub returns-clause-made : goal.returns-clause-made
returns-clause-made g c =
    let loads : c.in_ok-filled.field-0.items ≡ replicate c.args.n 0 = c.in_ok-filled.ensures.items in
    rw (loads, c.in_ok-filled-2.ensures.items)

pub returns-in_err-filled-clause-refused : goal.returns-in_err-filled-clause-refused
returns-in_err-filled-clause-refused g c =
    passed_on c.from_residual.result (λ _. ⊤) (RefusesNew c.args.n) OutOfMemory c.from_residual.ensures.1 c.in_err-filled.ensures.refused

pub returns-in_err-filled-2-clause-refused : goal.returns-in_err-filled-2-clause-refused
returns-in_err-filled-2-clause-refused g c =
    passed_on c.from_residual-in_err-filled-2.result (λ _. ⊤) (RefusesNew c.args.n) OutOfMemory c.from_residual-in_err-filled-2.ensures.1 c.in_err-filled-2.ensures.refused

pub invariant_of-result : goal.invariant_of-result
invariant_of-result g c =
    let loads : c.in_ok-filled.field-0.items ≡ replicate c.args.n 0 = c.in_ok-filled.ensures.items in
    let numbered : c.args.round ≤ ROUND = search rules in
    rw (loads, c.in_ok-filled-2.ensures.items) (opening_measured c.args.round c.args.n c.requires.numbered numbered c.requires.few, all_missing c.args.n)
