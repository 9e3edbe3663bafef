-- SplitMix64: G. Steele, D. Lea and C. Flood, "Fast splittable pseudorandom number generators", OOPSLA 2014. Its state is a
-- number of 64 bits. docs/RUNS.md describes it in prose.
use Rattle.std.specs.Prelude.{ℕ, ◌+◌, ◌*◌, ◌/◌, ◌%◌, ◌^◌, bit_xor}

-- the state after this one
abbrev pub next_state : ℕ → ℕ
next_state s = (s + 0x9e37_79b9_7f4a_7c15) % 2 ^ 64

-- the number that is returned in a state, once it has become this one
unfoldable pub mixed : ℕ → ℕ
mixed s =
    let y = (bit_xor s (s / 2 ^ 30) * 0xbf58_476d_1ce4_e5b9) % 2 ^ 64 in
    let z = (bit_xor y (y / 2 ^ 27) * 0x94d0_49bb_1331_11eb) % 2 ^ 64 in
    bit_xor z (z / 2 ^ 31)

-- the next number from a state on
abbrev pub next_number : ℕ → ℕ
next_number s = mixed (next_state s)

-- the next number, scaled to one below this bound
abbrev pub scaled : ℕ → ℕ → ℕ
scaled s bound = next_number s * bound / 2 ^ 64
