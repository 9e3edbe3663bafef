use Rattle.std.proofs.Common.{◌≡◌, ◌≤◌, length, vec_capacity}
use Rattle.pe_queues.proofs.locations.Locations.new.Given as goal

abbrev pub invariant-loop-place : goal.invariant-loop-place
invariant-loop-place g l = record {
  so_far : length l.words.items ≡ l.place-index;
  wide : length l.places ≤ vec_capacity l.words;
}
