-- Bytes that are taken piece by piece, where all pieces have the same length.
use Rattle.std.proofs.Common.{◌≡◌, ℕ, suc, ◌+◌, ◌*◌, ◌/◌, ◌<◌, ◌≤◌, ap, ◌∙◌, arith}
use Rattle.std.proofs.Math.Nat.{div-add-mod, mod-lt, mul-add, mul-le-mul_left, mul-suc}

-- Pieces were taken from these bytes, so that their number went from `before` to `now`, and `rest` bytes are left.
module _ (len before bytes now rest : ℕ) (spent : len * now + rest ≡ len * before + bytes) where
  -- where a whole piece is still to come, its bytes are there
  pub next_is_there : now < before + bytes / len → len ≤ rest
  next_is_there inside =
      let next : len * suc now ≤ len * (before + bytes / len) = mul-le-mul_left len inside in
      omega (arith, next, mul-suc len now, mul-add len before (bytes / len), div-add-mod bytes len)

  -- where all whole pieces were taken, less than a whole piece is left
  pub no_more_whole : 0 < len → before + bytes / len ≤ now → rest < len
  no_more_whole some all =
      let taken : len * (before + bytes / len) ≤ len * now = mul-le-mul_left len all in
      omega (arith, taken, mul-add len before (bytes / len), div-add-mod bytes len, mod-lt bytes some)

  -- one piece more
  pub spent_next : (more after : ℕ) → more ≡ now + 1 → after + len ≡ rest → len * more + after ≡ len * before + bytes
  spent_next more after is parts = ap (λ n. len * n + after) is ∙ omega (arith, mul-add len now 1)
