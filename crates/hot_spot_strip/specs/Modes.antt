-- Whether a strip is balanced, and how that is packed.
use Rattle.std.specs.Prelude.{◌≡◌, ℕ, ◌<◌, ◌^◌, Bool, true, false, ◌==◌, if◌then◌else◌}
use Rattle.std.specs.Int.{w32, to_be_bytes}
use Rattle.std.proofs.Common.{refl}
use Rattle.pup_pack.specs.Numbers.{unpack_u32}
use Rattle.pup_pack.specs.Packing.{RoundTrip}
use Rattle.pup_pack.specs.Structs.{made}
use Rattle.pup_pack.specs.Trips.{struct_trips, u32_trips}
use Rattle.hot_spot_strip.specs.declared.mode.Mode.{Mode}
use Rattle.hot_spot_strip.specs.declared.mode.Mode.TheVariants.{Balanced, Static}

abbrev pub is_static : Mode → Bool
is_static Balanced = false
is_static Static = true

-- the number that it packs into
abbrev pub mode_number : Mode → ℕ
mode_number Balanced = 0
mode_number Static = 1

abbrev pub mode_of : ℕ → Mode
mode_of number = if number == 0 then Balanced else Static

mode_again : (m : Mode) → mode_of (mode_number m) ≡ m
mode_again Balanced = refl
mode_again Static = refl

pub mode_trips : RoundTrip (λ m. mode_number m < 2 ^ 32) (λ _. Unit {0}) (λ m. to_be_bytes w32 (mode_number m)) (λ bytes. made mode_of (unpack_u32 bytes))
mode_trips = struct_trips mode_number mode_of mode_again u32_trips
