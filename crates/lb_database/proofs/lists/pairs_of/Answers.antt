use Rattle.std.proofs.Common.{◌<◌, ◌∙◌, length}
use Rattle.std.proofs.lemmas.List.{take_all}
use Rattle.lb_database.proofs.Pairs.{pairs_more}
use Rattle.lb_database.proofs.Refused.{known, some_inside, some_where_refused}
use Rattle.lb_database.proofs.lists.pairs_of.Goals as goal

pub returns-in_err-pairs-clause-refused : goal.returns-in_err-pairs-clause-refused
returns-in_err-pairs-clause-refused g c =
    known c.from_residual.result (0 < length c.args.reports.now) (some_where_refused (length c.args.reports.now) c.in_err-pairs.ensures.succeeds)

pub returns-in_err-push-clause-refused : goal.returns-in_err-push-clause-refused
returns-in_err-push-clause-refused g c =
    known c.from_residual-in_err-push.result (0 < length c.args.reports.now) (some_inside c.loop-report.report-index (length c.args.reports.now) c.loop-report-test.true)

pub loop-report-preserved : goal.loop-report-preserved
loop-report-preserved g c =
    pairs_more c.loop-report.pairs.items c.push.new.self.items c.args.reports.now c.loop-report.report-index c.report-item.result _
    c.in_ok-push.ensures.items c.loop-report-test.true c.report-item.is (cc) c.loop-report.invariant

pub returns-clause-items : goal.returns-clause-items
returns-clause-items g c =
    c.loop-report.invariant ∙ take_all c.loop-report.report-index c.args.reports.now c.loop-report-test.false
