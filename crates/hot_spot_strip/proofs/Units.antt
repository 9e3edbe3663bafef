-- The work of a round fits.
use Rattle.std.proofs.Common.{ℕ, ◌*◌, ◌<◌}
use Rattle.std.proofs.lemmas.Nat.{mul-lt}

pub units_fit : (cells work : ℕ) → cells < 4097 → work < 4294967297 → cells * work < 4097 * 4294967297
units_fit cells work few small = mul-lt cells work 4097 4294967297 few small
