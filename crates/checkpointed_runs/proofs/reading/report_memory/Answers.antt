use Rattle.std.proofs.Common.{subst}
use Rattle.checkpointed_runs.specs.Lines.{WritesLine}
use Rattle.checkpointed_runs.specs.declared.reading.NoCheckpoint.TheVariants.{OutOfMemory}
use Rattle.checkpointed_runs.proofs.reading.report_memory.Goals as goal

pub returns : goal.returns
returns g c =
    record {
      written = subst (λ t. WritesLine t OutOfMemory (g.W.Write.contents c.args.writer.now)
          (g.W.Write.contents c.report_line.new.writer) c.report_line.result) c.as_bytes.ensures.value c.report_line.ensures.written;
    }
