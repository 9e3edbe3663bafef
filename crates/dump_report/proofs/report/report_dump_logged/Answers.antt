use Rattle.dump_report.proofs.Found.{not_unwritten}
use Rattle.dump_report.proofs.report.report_dump_logged.Goals as goal

pub returns-in-Err-clause-unwritten : goal.returns-in-Err-clause-unwritten
returns-in-Err-clause-unwritten g c =
    not_unwritten g.row.A.Denot (g.R.Read.remaining c.args.reader.now) (g.R.Read.remaining c.report_text.new.reader) c.in-Err.fault _ c.in-Err.ensures.fault
