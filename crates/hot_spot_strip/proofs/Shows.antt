-- What a strip shows is read again from its letter.
use Rattle.std.proofs.Common.{◌≡◌, ◌<◌, ◌^◌, Some, refl}
use Rattle.std.proofs.lemmas.Nat.{from_be_bytes-to_be_bytes_4, from_be_bytes-to_be_bytes_8}
use Rattle.hot_spot_strip.specs.declared.shown.Shown.{Shown}
use Rattle.hot_spot_strip.specs.declared.shown.Side.{Side}
use Rattle.hot_spot_strip.specs.declared.shown.Side.TheVariants.{Left, Right}
use Rattle.hot_spot_strip.specs.Showing.{body_of, shown_in, side_byte, side_of}

side_again : (side : Side) → side_of (side_byte side) ≡ side
side_again Left = refl
side_again Right = refl

pub shown_again : (shown : Shown) → shown.round < 2 ^ 32 → shown.value < 2 ^ 64 → shown_in (body_of shown) ≡ Some shown
shown_again shown round value = rw (side_again shown.side, from_be_bytes-to_be_bytes_4 shown.round round, from_be_bytes-to_be_bytes_8 shown.value value) refl
