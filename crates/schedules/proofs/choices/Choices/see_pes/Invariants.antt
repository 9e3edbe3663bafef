use Rattle.std.proofs.Common.{◌≡◌, ℕ, ◌<◌, length}
use Rattle.schedules.specs.Choices.{moves_in}
use Rattle.schedules.specs.Draws.{moves_at}
use Rattle.schedules.proofs.choices.Choices.see_pes.Given as goal

abbrev pub invariant-loop-number : goal.invariant-loop-number
invariant-loop-number g l = record {
  counted : length l.self.looks ≡ length l.world.pes;
  places : l.self.places ≡ l.initial.self.places;
  moves : (k : ℕ) → k < l.number → moves_in l.self k ≡ moves_at l.world k;
}
