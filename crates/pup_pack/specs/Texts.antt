-- Texts: the bytes of the text's UTF-8, as a list of bytes.
use Rattle.std.specs.Prelude.{◌≡◌, ℕ, List, true, Result}
use Rattle.std.specs.Str.{is_utf8}
use Rattle.pup_pack.specs.declared.error.PupError.{PupError}
use Rattle.pup_pack.specs.Lists.{unpack_bytes}
use Rattle.pup_pack.specs.Structs.{judged}

abbrev pub IsText : List ℕ → Type 0
IsText bytes = is_utf8 bytes ≡ true

abbrev pub unpack_text : List ℕ → Result (List ℕ × ℕ) PupError
unpack_text bytes = judged is_utf8 (unpack_bytes bytes)
