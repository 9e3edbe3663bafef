use Rattle.std.proofs.Common.{codes, subst, Some}
use Rattle.std.specs.String.{string_bytes}
use Rattle.streams.specs.Telling.{Tells}
use Rattle.dump_report.specs.Tellings.{advice, fault_said, line_about}
use Rattle.dump_report.proofs.telling.tell_because.Goals as goal

pub returns-in-Dump : goal.returns-in-Dump
returns-in-Dump g c =
    let fault = c.in-Dump.fault in (
      string_bytes c.in-Ok.shown,
      rw c.in-Dump.is (subst (λ reason. Tells (line_about c.args.name.now (fault_said fault (Some reason)) (advice fault))
          (g.W.Write.contents c.args.writer.now) (g.W.Write.contents c.tell_read.new.writer) c.tell_read.result) c.deref.ensures c.tell_read.ensures),
    )

pub returns-in-WriteFailed : goal.returns-in-WriteFailed
returns-in-WriteFailed g c = (
  string_bytes c.in-Ok.shown,
  rw c.in-WriteFailed.is (subst (λ why. Tells (line_about (codes "standard output") why
      (codes "give it a place that takes all of the report")) (g.W.Write.contents c.args.writer.now)
      (g.W.Write.contents c.tell_line.new.writer) c.tell_line.result) c.deref-in-WriteFailed.ensures c.tell_line.ensures),
)
