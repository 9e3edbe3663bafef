use Rattle.std.proofs.Common.{[], ◌∷◌, ◌∙◌}
use Rattle.std.specs.Prelude.{codes}
use Rattle.workload.specs.Text.{line}
use Rattle.run_checkpoint.proofs.WrittenParts.{spelled}
use Rattle.run_checkpoint.proofs.writing.put_head.Goals as goal

pub returns : goal.returns
returns g c =
    spelled (g.W.Write.contents c.args.writer.now) (g.W.Write.contents c.put.new.writer) c.as_bytes.result.now (line (codes "checkpoint") (c.args.rounds ∷ [])) c.put.result
    (c.as_bytes.ensures.value ∙ c.in_ok-push_head.ensures) c.put.ensures
