use Rattle.std.proofs.Common.{◌≡◌, ℕ, ◌<◌, length, slice_index}
use Rattle.merged_chains.specs.Narrowing.{spread_limit}
use Rattle.merged_chains.proofs.narrowing.spread.Given as goal

abbrev pub invariant-loop-j : goal.invariant-loop-j
invariant-loop-j l =
    record {
      same_room : length l.limits ≡ length l.fn.limits;
      spread : (k : ℕ) → k < l.j → slice_index l.limits k ≡ spread_limit l.bounds.low l.bounds.high (length l.fn.limits) k;
    }
