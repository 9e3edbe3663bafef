use Rattle.std.proofs.Common.{◌∙◌, sym, subst, append_assoc, codes}
use Rattle.std.specs.String.{string_bytes}
use Rattle.streams.specs.Telling.{Tells, fault_line}
use Rattle.streams.proofs.advice.Advice.tell_reason.Goals as goal

pub returns : goal.returns
returns g c =
    let shown = string_bytes c.in-Ok.shown in (
      shown,
      subst (λ said. Tells (fault_line c.args.self.program.now c.args.name.now said) (g.W.Write.contents c.args.writer.now)
          (g.W.Write.contents c.tell_line.new.writer) c.tell_line.result)
          (c.deref.ensures ∙ c.in-Ok-format.ensures.ok ∙ sym (append_assoc shown (codes "; ") c.args.self.unread.now)) c.tell_line.ensures,
    )
