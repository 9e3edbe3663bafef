use Rattle.std.proofs.Common.{refl}
use Rattle.workload_run.specs.Finishing.{dump_line}
use Rattle.workload_run.proofs.Tellings.{at_most_written}
use Rattle.workload_run.proofs.finishing.finish_dumped.Goals as goal

pub returns-clause-failed : goal.returns-clause-failed
returns-clause-failed g c = λ failed. (
  refl,
  at_most_written c.write_out-told.result (g.W.Write.contents c.args.writer.now) (g.W.Write.contents c.write_out-told.new.writer) dump_line
      (rw c.as_bytes.ensures.value at c.write_out-told.ensures.written),
)
