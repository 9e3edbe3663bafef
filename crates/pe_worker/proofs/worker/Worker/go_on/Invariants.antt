use Rattle.std.proofs.Common.{◌≡◌}
use Rattle.pe_worker.proofs.worker.Worker.go_on.Given as goal

abbrev pub invariant-loop-gone_on : goal.invariant-loop-gone_on
invariant-loop-gone_on g l = l.self.seated.pe.me ≡ l.initial.self.seated.pe.me
