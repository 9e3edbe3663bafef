use Rattle.std.proofs.Common.{◌≡◌, slice_index}
use Rattle.lb_strategy.specs.Moves.{moves_below}
use Rattle.lb_strategy.proofs.moves.moves_of.Given as goal

abbrev pub invariant-loop-b : goal.invariant-loop-b
invariant-loop-b g l = l.moves.items ≡ moves_below l.sizes l.cuts l.names (slice_index l.cuts l.b)

abbrev pub invariant-loop-i : goal.invariant-loop-i
invariant-loop-i g l = l.moves.items ≡ moves_below l.sizes l.cuts l.names l.i
