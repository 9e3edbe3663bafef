-- A mixing function of 64 bits, and many rounds of it.
use Rattle.std.specs.Prelude.{ℕ, zero, suc, ◌+◌, ◌*◌, ◌/◌, ◌%◌, ◌^◌, bit_xor}

-- the output of SplitMix64 in the state x
unfoldable pub mix : ℕ → ℕ
mix x =
    let a = (x + 0x9e37_79b9_7f4a_7c15) % 2 ^ 64 in
    let b = (bit_xor a (a / 2 ^ 30) * 0xbf58_476d_1ce4_e5b9) % 2 ^ 64 in
    let c = (bit_xor b (b / 2 ^ 27) * 0x94d0_49bb_1331_11eb) % 2 ^ 64 in
    bit_xor c (c / 2 ^ 31)

-- any number of rounds of it
abbrev pub mixed : ℕ → ℕ → ℕ
mixed x zero = x
mixed x (suc rounds) = mix (mixed x rounds)
