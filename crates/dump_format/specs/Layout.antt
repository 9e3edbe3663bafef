-- The layout of a text of fields, and how a text is judged from left to right.
use Rattle.std.specs.Prelude.{ℕ, List, [], ◌∷◌, length, drop, Option, Some, None, true, false, nat_lt}
use Rattle.std.specs.Int.{Width, byte_len, from_be_bytes}
use Rattle.dump_format.specs.declared.error.DumpError.{DumpError}
use Rattle.dump_format.specs.declared.error.DumpError.TheVariants.{Trailing}

-- Fields one after another: for each its width, the fault of a number in it that breaks its rule, and the fields that follow
-- it, which may depend on the number.
pub data Layout : Type 0 where
  End : Layout
  Field : Width → (ℕ → Option DumpError) → (ℕ → Layout) → Layout

-- what is found where a text is read field by field: it is whole, it ends before its last field does, or a field breaks
-- its rule
pub data Verdict : Type 0 where
  Whole : Verdict
  Unfinished : Verdict
  Broken : DumpError → Verdict

-- A text is read field by field. The first field that breaks its rule is reported, or a byte after the last field.
unfoldable pub judge : Layout → List ℕ → Verdict
judge End [] = Whole
judge End (byte ∷ bytes) = Broken Trailing
judge (Field w fault next) text =
    elim (nat_lt (length text) (byte_len w)) as (λ _. Verdict) [
      | true ↦ Unfinished
      | false ↦ elim (fault (from_be_bytes w text)) as (λ _. Verdict) [
        | None ↦ judge (next (from_be_bytes w text)) (drop (byte_len w) text)
        | Some e ↦ Broken e
      ]
    ]
