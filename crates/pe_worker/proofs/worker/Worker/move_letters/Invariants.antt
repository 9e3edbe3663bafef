use Rattle.std.proofs.Common.{◌≡◌}
use Rattle.pe_worker.proofs.worker.Worker.move_letters.Given as goal

abbrev pub invariant-loop-moved : goal.invariant-loop-moved
invariant-loop-moved g l = l.self.seated.pe.me ≡ l.initial.self.seated.pe.me
