-- Times of a trace, which are microseconds.
use Rattle.std.specs.Prelude.{ℕ, ◌%◌, ◌/◌, pos, if◌then◌else◌, nat_eq, option_map, unwrap_or, Float}
use lib.Ieee.{binary64, of_int, div}
use Rattle.serde_json.specs.Data.{Data, null, number, unsigned}
use Rattle.serde_json.specs.Find.{of_float}

-- the microseconds of this number of nanoseconds, as a float
abbrev pub microseconds : ℕ → Float
microseconds n = div binary64 (of_int binary64 (pos n)) (of_int binary64 (pos 1000))

-- a whole number where they are whole
abbrev pub time_data : ℕ → Data
time_data n = if nat_eq (n % 1000) 0 then number (unsigned (n / 1000)) else unwrap_or (option_map number (of_float (microseconds n))) null
