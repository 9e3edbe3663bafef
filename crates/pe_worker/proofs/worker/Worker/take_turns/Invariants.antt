use Rattle.std.proofs.Common.{◌≡◌}
use Rattle.pe_worker.proofs.worker.Worker.take_turns.Given as goal

abbrev pub invariant-loop : goal.invariant-loop
invariant-loop g l = (goal.iterator-loop g).can_next l.iterator' × (goal.iterator-loop g).is_finite l.iterator' × (l.self.seated.pe.me ≡ l.initial.self.seated.pe.me)
