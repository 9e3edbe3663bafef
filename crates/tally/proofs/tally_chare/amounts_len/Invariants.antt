use Rattle.std.proofs.Common.{◌≡◌, ◌+◌, ◌*◌, ◌^◌, ◌<◌, All, take}
use Rattle.tally.proofs.tally_chare.amounts_len.Given as goal

abbrev pub invariant-loop-amount : goal.invariant-loop-amount
invariant-loop-amount l =
    record {
      len : l.len ≡ 4 + 4 * l.amount-index;
      fits : All (λ n. n < 2 ^ 32) (take l.amount-index l.amounts);
    }
