use Rattle.std.proofs.Common.{rules}
use Rattle.lb_replay.proofs.PeLines.{line_of_none, line_of_some}
use Rattle.lb_replay.proofs.text.push_pe.Goals as goal

pub returns-then-first-end : goal.returns-then-first-end
returns-then-first-end g c =
    rw (line_of_none c.args.first c.args.end c.args.pe c.if-first-end.true) (search rules)

pub returns : goal.returns
returns g c =
    rw (line_of_some c.args.first c.args.end c.args.pe c.if-first-end.false) c.writeln.ensures.bytes
