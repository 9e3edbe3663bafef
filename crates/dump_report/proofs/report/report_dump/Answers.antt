use Rattle.dump_report.proofs.OneReports.{one_report}
use Rattle.dump_report.proofs.report.report_dump.Goals as goal

pub returns-clause-one_text : goal.returns-clause-one_text
returns-clause-one_text g c = one_report g.row.A.Denot c.args.style c.args.name.now c.args.procs.now c.args.tolerance
