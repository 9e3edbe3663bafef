-- Numbers of eight bytes pack into few.
use Rattle.std.specs.Prelude.{ℕ, ℤ, ◌≤◌, length}
use Rattle.std.specs.Float.{Float, binary64}
use Rattle.std.specs.Int.{w64, to_be_bytes}
use Rattle.std.proofs.Common.{lit≤}
use Rattle.pup_pack.specs.Floats.{pack_float}
use Rattle.pup_pack.specs.Signed.{pack_signed}
use Rattle.reductions.specs.Combining.{VALUE_BYTES}

pub small_u64 : (n : ℕ) → Unit {0} × (length (to_be_bytes w64 n) ≤ VALUE_BYTES)
small_u64 n = (tt, lit≤ tt)

pub small_i64 : (n : ℤ) → Unit {0} × (length (pack_signed w64 (to_be_bytes w64) n) ≤ VALUE_BYTES)
small_i64 n = (tt, lit≤ tt)

pub small_f64 : (x : Float) → Unit {0} × (length (pack_float binary64 (to_be_bytes w64) x) ≤ VALUE_BYTES)
small_f64 x = (tt, lit≤ tt)
