use Rattle.std.proofs.Common.{◌≡◌, ◌+◌, ◌*◌, ◌≤◌, length, vec_capacity}
use Rattle.lb_dump.proofs.NumbersRead.{PricesRead}
use Rattle.lb_dump.proofs.plan_lists.prices_in.Given as goal

abbrev pub invariant-loop : goal.invariant-loop
invariant-loop g l =
    record {
      left : length l.rest + 8 * l.counter ≡ 8 * l.count;
      counted : length l.prices.items ≡ l.counter;
      room : l.count ≤ vec_capacity l.prices;
      read : PricesRead l.prices.items l.rest l.bytes;
    }
