use Rattle.std.proofs.Common.{◌≡◌, ◌<◌, ◌≤◌, length, take, slice_index}
use Rattle.lb_certificates.specs.Naming.{blocks_between}
use Rattle.lb_strategy.specs.Moves.{moves_below}
use Rattle.lb_strategy.proofs.moves.are_moves.Given as goal

abbrev pub invariant-loop-i : goal.invariant-loop-i
invariant-loop-i l =
    record {
      so_far : take l.next l.moves ≡ moves_below l.sizes l.cuts l.names l.i;
      inside : l.next ≤ length l.moves;
      block : l.b < blocks_between l.cuts;
      not_before : slice_index l.cuts l.b ≤ l.i;
    }
