-- The checksum of a rod: the FNV-1a hash of its cells, a double at a time, each by the bits that IEEE 754 gives it.
use Rattle.std.specs.Prelude.{ℕ, ◌*◌, ◌%◌, ◌^◌, bit_xor, to_bits}
use Rattle.std.specs.Float.{Float, binary64}

-- with one more cell
unfoldable pub joined : ℕ → Float → ℕ
joined sum cell = (bit_xor sum (to_bits binary64 cell) * 0x100_0000_01b3) % 2 ^ 64
