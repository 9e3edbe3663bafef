-- How many bytes a dump has, by the number of its elements.
use Rattle.std.specs.Prelude.{ℕ, ◌+◌, ◌*◌, Bool, if◌then◌else◌}

-- the length of an element: a load of four bytes, or of eight in the wide format, a size and a place
abbrev pub element_len : Bool → ℕ
element_len is_wide = if is_wide then 16 else 12

-- the length of a dump without a decision: the head, the elements, and in the wide format the flag
abbrev pub end_len : ℕ → Bool → ℕ
end_len count is_wide = 16 + element_len is_wide * count + (if is_wide then 4 else 0)
