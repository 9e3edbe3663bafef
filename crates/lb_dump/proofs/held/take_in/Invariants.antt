use Rattle.std.proofs.Common.{◌≡◌, ◌++◌, ◌≤◌, length}
use Rattle.dump_format.specs.Faults.{IsWhole}
use Rattle.lb_dump.specs.Held.{IsHeld, text_of}
use Rattle.lb_dump.proofs.held.take_in.Given as goal

abbrev pub invariant-loop-rest : goal.invariant-loop-rest
invariant-loop-rest g l =
    record {
      held : IsHeld l.held;
      joined : text_of l.held ++ l.rest ≡ text_of l.fn.held ++ l.fn.piece;
      fewer : length l.rest ≤ length l.fn.piece;
      whole : IsWhole (text_of l.fn.held) → text_of l.held ≡ text_of l.fn.held;
    }

abbrev pub decreases-loop-rest : goal.decreases-loop-rest
decreases-loop-rest g l = length l.rest
