-- An answer that is handed in.
use Rattle.std.specs.Prelude.{ℕ, List, length, Option, None, Some, Result, Ok, Err, ◌==◌, if◌then◌else◌}
use Rattle.foreign_chare.specs.Answers.{answer_in}
use Rattle.foreign_chare.specs.Scripts.{Answered}
use Rattle.pup_pack.specs.declared.error.PupError.{PupError}

-- the answer that this many bytes are
abbrev pub whole : ℕ → Result (Answered × ℕ) PupError → Option Answered
whole n (Ok x) = if x.1 == n then Some x.0 else None
whole n (Err e) = None

abbrev pub answered : List ℕ → Option Answered
answered bytes = whole (length bytes) (answer_in bytes)
