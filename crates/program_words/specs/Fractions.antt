-- Tolerances on a command line that are written as fractions: 0.02 is 20 thousandths.
use Rattle.std.specs.Prelude.{ℕ, ◌-◌, Bool, ◌==◌, ◌&&◌, if◌then◌else◌, nat_le, nat_lt, ◌++◌, length, codes}
use Rattle.std.specs.Char.{is_ascii_digit}
use Rattle.std.specs.List.{after_first, before_first, list_all, position_or_len, repeat}
use Rattle.std.specs.Str.{bytes_eq}
use Rattle.clap.specs.Words.{Text}

abbrev pub is_point : ℕ → Bool
is_point byte = byte == 46

abbrev pub is_equals : ℕ → Bool
is_equals byte = byte == 61

-- the digits before the point, and those after it, of which there are one to three
abbrev pub is_fraction : Text → Text → Bool
is_fraction whole decimals =
    list_all is_ascii_digit whole && list_all is_ascii_digit decimals && nat_le 1 (length whole) && nat_le 1 (length decimals) && nat_le (length decimals) 3

-- a thousand times the number: the digits without the point, with three after it
abbrev pub thousandths : Text → Text → Text
thousandths whole decimals = whole ++ (decimals ++ repeat (3 - length decimals) (codes "0"))

-- a fraction in thousandths, and any other text as it is
abbrev pub in_thousandths : Text → Text
in_thousandths text =
    if is_fraction (before_first is_point text) (after_first is_point text)
    then thousandths (before_first is_point text) (after_first is_point text)
    else text

abbrev pub tolerance_name : Text
tolerance_name = codes "--tolerance"

-- whether the word has this name and a value, with = between them
abbrev pub has_value : Text → Text → Bool
has_value name word = bytes_eq (before_first is_equals word) name && nat_lt (position_or_len is_equals word) (length word)

-- how a word is read after another: the value of a tolerance in thousandths
abbrev pub as_read : Text → Text → Text
as_read before word =
    if bytes_eq before tolerance_name
    then in_thousandths word
    else (if has_value tolerance_name word then tolerance_name ++ codes "=" ++ in_thousandths (after_first is_equals word) else word)
