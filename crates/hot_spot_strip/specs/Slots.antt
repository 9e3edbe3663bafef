-- A place for a value that comes from a neighbor, and how it is packed.
use Rattle.std.specs.Prelude.{◌≡◌, ℕ, ◌<◌, ◌^◌, ◌++◌, Bool, true, false, ◌==◌, if◌then◌else◌}
use Rattle.std.specs.Int.{w32, w64, to_be_bytes}
use Rattle.std.proofs.Common.{refl}
use Rattle.pup_pack.specs.Numbers.{unpack_u32, unpack_u64}
use Rattle.pup_pack.specs.Packing.{RoundTrip}
use Rattle.pup_pack.specs.Pairs.{unpack_pair}
use Rattle.pup_pack.specs.Structs.{made}
use Rattle.pup_pack.specs.Trips.{pair_trips, struct_trips, u32_trips, u64_trips}
use Rattle.hot_spot_strip.specs.declared.slot.Slot.{Slot}
use Rattle.hot_spot_strip.specs.declared.slot.Slot.TheVariants.{Empty, Filled}

abbrev pub is_filled : Slot → Bool
is_filled Empty = false
is_filled (Filled value) = true

-- the value, or 0 where none has come
abbrev pub value_in : Slot → ℕ
value_in Empty = 0
value_in (Filled value) = value

-- the numbers that it packs into
abbrev pub slot_parts : Slot → ℕ × ℕ
slot_parts Empty = (0, 0)
slot_parts (Filled value) = (1, value)

abbrev pub slot_of : ℕ × ℕ → Slot
slot_of parts = if parts.0 == 0 then Empty else Filled parts.1

slot_again : (s : Slot) → slot_of (slot_parts s) ≡ s
slot_again Empty = refl
slot_again (Filled value) = refl

pub slot_trips : RoundTrip (λ s. ((slot_parts s).0 < 2 ^ 32) × ((slot_parts s).1 < 2 ^ 64)) (λ s. Unit {0} × Unit {0})
    (λ s. to_be_bytes w32 (slot_parts s).0 ++ to_be_bytes w64 (slot_parts s).1) (λ bytes. made slot_of (unpack_pair unpack_u32 unpack_u64 bytes))
slot_trips = struct_trips slot_parts slot_of slot_again (pair_trips u32_trips u64_trips)
