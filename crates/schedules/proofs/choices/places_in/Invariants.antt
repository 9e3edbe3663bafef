use Rattle.std.proofs.Common.{◌≡◌, ◌≤◌, length, take}
use Rattle.schedules.proofs.choices.places_in.Given as goal

abbrev pub invariant-loop-number : goal.invariant-loop-number
invariant-loop-number g l = record {
  taken : l.places.items ≡ take l.number l.world.words;
  within : l.number ≤ length l.world.words;
}
