use Rattle.std.proofs.Common.{◌≡◌, ◌+◌, length, drop}
use Rattle.std.specs.List.{flat_map}
use Rattle.rts_core.specs.Places.{letters_at}
use Rattle.rts_core.proofs.account.held_by.Given as goal

abbrev pub invariant-loop-pe : goal.invariant-loop-pe
invariant-loop-pe g l = l.held + length (flat_map letters_at (drop l.pe-index l.pes)) ≡ length (flat_map letters_at l.pes)
