use Rattle.std.proofs.Common.{◌≡◌, map}
use Rattle.std.specs.List.{range_with_len}
use Rattle.pe_state.specs.Pes.{new_pe}
use Rattle.placed_runs.proofs.opening.bare_pes.Given as goal

abbrev pub invariant-loop-q : goal.invariant-loop-q
invariant-loop-q g l = l.made.items ≡ map (λ q. new_pe q l.n) (range_with_len 0 l.q)
