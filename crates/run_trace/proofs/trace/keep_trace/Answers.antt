use Rattle.std.proofs.Common.{ℕ, Option, List}
use Rattle.run_trace.specs.Shown.{all_events}
use Rattle.run_trace.specs.Writing.{WritesTrace}
use Rattle.run_trace.proofs.Kept.{kept_in_made}
use Rattle.run_trace.proofs.trace.keep_trace.Goals as goal

pub returns-in-Ok-clause-kept : goal.returns-in-Ok-clause-kept
returns-in-Ok-clause-kept g c =
    kept_in_made (λ file. (left : Option (List ℕ)) × WritesTrace (g.W.Write.contents file) left (all_events c.args.pes c.args.happenings.now c.args.rounds.now))
    c.write_noted.result c.args.file c.in-Ok.file c.in-Ok.is c.write_noted.ensures.kept
