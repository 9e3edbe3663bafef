use Rattle.std.proofs.Common.{◌≡◌, length, map, take}
use Rattle.board_handle.proofs.reading.write_bytes.Given as goal

abbrev pub invariant-loop-i : goal.invariant-loop-i
invariant-loop-i l =
    record {
      counted : length l.bytes ≡ length l.initial.bytes;
      written : take l.i l.bytes ≡ map (λ size. size.0) (take l.i l.sizes);
    }
