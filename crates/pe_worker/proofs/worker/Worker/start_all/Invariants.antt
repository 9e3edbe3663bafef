use Rattle.std.proofs.Common.{◌≡◌}
use Rattle.pe_worker.proofs.worker.Worker.start_all.Given as goal

abbrev pub invariant-loop-element : goal.invariant-loop-element
invariant-loop-element g l = l.self.seated.pe.me ≡ l.initial.self.seated.pe.me
