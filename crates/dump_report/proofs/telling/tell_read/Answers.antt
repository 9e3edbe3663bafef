use Rattle.std.proofs.Common.{◌∙◌, subst}
use Rattle.streams.specs.Telling.{Tells}
use Rattle.dump_report.specs.Tellings.{advice, line_about}
use Rattle.dump_report.proofs.telling.tell_read.Goals as goal

pub returns : goal.returns
returns g c =
    subst (λ what. Tells (line_about c.args.name.now what (advice c.args.fault)) (g.W.Write.contents c.args.writer.now)
    (g.W.Write.contents c.tell_line.new.writer) c.tell_line.result)
    (c.deref.ensures ∙ c.in-Ok.ensures.ok)
    (rw c.advice.ensures at c.tell_line.ensures)
