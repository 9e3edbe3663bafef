use Rattle.std.proofs.Common.{refl, subst}
use Rattle.std.specs.Prelude.{MatchBool}
use Rattle.std.specs.Io.KnownBytes.{Appends}
use Rattle.checkpointed_runs.specs.Lines.{not_kept_line}
use Rattle.streams.specs.Writing.{WritesPrefix}
use Rattle.workload_run.proofs.Tellings.{at_most_written}
use Rattle.checkpointed_runs.proofs.checkpoints.finish_kept.Goals as goal

pub returns-clause-failed : goal.returns-clause-failed
returns-clause-failed g c =
    let old = g.W.Write.contents c.args.writer.now in
    let new = g.W.Write.contents c.write_out-told.new.writer in
    λ failed. (
      refl,
      at_most_written c.write_out-told.result old new not_kept_line
          (subst (λ bytes. MatchBool c.write_out-told.result (Appends old new bytes) (WritesPrefix old new bytes)) c.as_bytes.ensures.value c.write_out-told.ensures.written),
    )
