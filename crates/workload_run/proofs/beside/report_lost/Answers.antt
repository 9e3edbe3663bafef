use Rattle.workload_run.specs.Besides.{lost_line}
use Rattle.workload_run.proofs.Tellings.{at_most_written}
use Rattle.workload_run.proofs.beside.report_lost.Goals as goal

pub returns : goal.returns
returns g c = record {
  told =
      at_most_written c.write_out-told.result (g.W.Write.contents c.args.writer.now) (g.W.Write.contents c.write_out-told.new.writer) (lost_line c.args.which)
      (rw (c.as_bytes.ensures.value, c.line_of.ensures) at c.write_out-told.ensures.written);
}
