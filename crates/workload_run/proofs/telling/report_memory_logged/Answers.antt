use Rattle.std.proofs.Common.{subst}
use Rattle.workload_run.specs.Telling.{WritesText}
use Rattle.workload_run.specs.declared.ended.RunEnd.TheVariants.{OutOfMemory}
use Rattle.workload_run.proofs.telling.report_memory_logged.Goals as goal

pub returns-clause-written : goal.returns-clause-written
returns-clause-written g c =
    subst (λ t. WritesText t OutOfMemory (g.W.Write.contents c.args.writer.now)
    (g.W.Write.contents c.report_text_logged.new.writer) c.report_text_logged.result) c.as_bytes.ensures.value c.report_text_logged.ensures.written
