use Rattle.std.proofs.Common.{◌≡◌, map}
use Rattle.std.specs.List.{range_with_len}
use Rattle.lb_strategy.specs.Moves.{planned_pe}
use Rattle.checkpointed_runs.proofs.checkpoints.places_by.Given as goal

abbrev pub invariant-loop-e : goal.invariant-loop-e
invariant-loop-e g l = l.places.items ≡ map (λ e. planned_pe l.decision.division.cuts l.decision.naming e) (range_with_len 0 l.e)
