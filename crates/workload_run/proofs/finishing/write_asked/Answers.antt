use Rattle.std.proofs.Common.{refl}
use Rattle.workload_run.specs.Finishing.{dump_line}
use Rattle.workload_run.proofs.Tellings.{at_most_written}
use Rattle.workload_run.proofs.finishing.write_asked.Goals as goal

pub returns-in-Err-clause-dumps : goal.returns-in-Err-clause-dumps
returns-in-Err-clause-dumps g c =
    rw c.in-Some.is (
      refl,
      at_most_written c.write_out-told.result (g.W.Write.contents c.args.writer.now) (g.W.Write.contents c.write_out-told.new.writer) dump_line
          (rw c.as_bytes.ensures.value at c.write_out-told.ensures.written),
      rw c.rounds.ensures.value at c.in-Err.ensures.asked,
    )
