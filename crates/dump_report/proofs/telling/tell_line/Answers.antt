use Rattle.std.proofs.Common.{◌∙◌, codes, subst, [], ◌∷◌}
use Rattle.streams.specs.Telling.{Tells}
use Rattle.dump_report.proofs.ToldLines.{line_is}
use Rattle.dump_report.proofs.telling.tell_line.Goals as goal

pub returns : goal.returns
returns g c =
    subst (λ line. Tells line (g.W.Write.contents c.args.writer.now) (g.W.Write.contents c.write_out.new.writer) c.write_out.result)
    (c.as_bytes.ensures.value ∙ c.in-Ok.ensures.ok ∙ line_is (codes "lb_report: ") c.args.name.now (codes ": ") c.args.what.now (codes "; ") c.args.todo.now (10 ∷ []))
    c.write_out.ensures.written
