use Rattle.std.proofs.Common.{◌≡◌, ◌++◌, ◌+◌, ◌-◌, ◌*◌, ◌≤◌, length, vec_len, vec_capacity}
use Rattle.lb_dump.specs.Moves.{AreMoves, moves_text}
use Rattle.lb_dump.proofs.moves.take_moves.Given as goal

abbrev pub invariant-loop-rest : goal.invariant-loop-rest
invariant-loop-rest g l = record {
  joined : moves_text l.moves.items ++ l.rest ≡ moves_text l.fn.moves.items ++ l.bytes;
  kept : AreMoves l.fn.count l.moves.items;
  spent : 12 * length l.moves.items + length l.rest ≡ 12 * length l.fn.moves.items + length l.bytes;
  few : length l.moves.items ≤ l.end;
  moves : vec_len l.moves ≡ length l.moves.items;
  room : l.end ≤ vec_capacity l.moves;
}

abbrev pub decreases-loop-rest : goal.decreases-loop-rest
decreases-loop-rest g l = l.end - length l.moves.items
