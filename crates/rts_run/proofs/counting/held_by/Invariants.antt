use Rattle.std.proofs.Common.{◌≡◌, ◌+◌, length, drop}
use Rattle.std.specs.List.{flat_map}
use Rattle.rts_core.specs.Places.{letters_at}
use Rattle.rts_run.proofs.counting.held_by.Given as goal

abbrev pub invariant-loop-end : goal.invariant-loop-end
invariant-loop-end g l = l.held + length (flat_map letters_at (drop l.end-index l.ends)) ≡ length (flat_map letters_at l.ends)
