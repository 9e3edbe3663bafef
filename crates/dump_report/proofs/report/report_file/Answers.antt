use Rattle.dump_report.proofs.report.report_file.Goals as goal

pub returns-in-Ok-clause-opened : goal.returns-in-Ok-clause-opened
returns-in-Ok-clause-opened g c =
    rw c.in-Ok.is (g.R.Read.remaining c.report_dump_logged-ended.new.reader, c.report_dump_logged-ended.ensures.ends)
