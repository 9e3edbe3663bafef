-- Consecutive elements keep the limits of all.
use Rattle.std.proofs.Common.{ℕ, ◌≤◌, List, take, drop, arith}
use Rattle.std.proofs.lemmas.List.{length-drop, length-take}
use Rattle.std.proofs.lemmas.List.Elements.{All-drop, All-take}
use Rattle.chare_index.specs.declared.limits.TheConstants.Limits.{STATE_BYTES}
use Rattle.lb_snapshot.specs.Measured.{IsSizes}

pub sizes_part : (sizes : List (ℕ × ℕ)) (first count : ℕ) → IsSizes sizes → IsSizes (take count (drop first sizes))
sizes_part sizes first count h =
    record {
      few = omega (arith, length-take count (drop first sizes), length-drop first sizes, h.few);
      small = All-take (λ (size : ℕ × ℕ). size.0 ≤ STATE_BYTES) count (drop first sizes) (All-drop (λ (size : ℕ × ℕ). size.0 ≤ STATE_BYTES) first sizes h.small);
    }
