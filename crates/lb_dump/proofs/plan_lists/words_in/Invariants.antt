use Rattle.std.proofs.Common.{◌≡◌, ◌+◌, ◌*◌, ◌≤◌, length, vec_capacity}
use Rattle.lb_dump.proofs.NumbersRead.{WordsRead}
use Rattle.lb_dump.proofs.plan_lists.words_in.Given as goal

abbrev pub invariant-loop : goal.invariant-loop
invariant-loop g l =
    record {
      left : length l.rest + 4 * l.counter ≡ 4 * l.count;
      counted : length l.words.items ≡ l.counter;
      room : l.count ≤ vec_capacity l.words;
      read : WordsRead l.words.items l.rest l.bytes;
    }
