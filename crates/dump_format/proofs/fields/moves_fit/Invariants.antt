use Rattle.std.proofs.Common.{ℕ, ◌<◌}
use Rattle.std.specs.List.{AllWithin}
use Rattle.chare_index.specs.declared.limits.TheConstants.Limits.{PES}
use Rattle.dump_format.proofs.fields.moves_fit.Given as goal

-- the moves so far
abbrev pub invariant-loop-present : goal.invariant-loop-present
invariant-loop-present l = AllWithin (λ (move : ℕ × ℕ × ℕ). (move.1 < PES) × (move.2 < PES)) l.moves 0 l.present-index
