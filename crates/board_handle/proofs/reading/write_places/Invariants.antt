use Rattle.std.proofs.Common.{◌≡◌, length, map, take}
use Rattle.board_handle.proofs.reading.write_places.Given as goal

abbrev pub invariant-loop-i : goal.invariant-loop-i
invariant-loop-i l =
    record {
      counted : length l.places ≡ length l.initial.places;
      written : take l.i l.places ≡ map (λ size. size.1) (take l.i l.sizes);
    }
