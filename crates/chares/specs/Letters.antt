-- Letters, entries of a journal, and what is carried, as contracts see them.
use Rattle.std.specs.Prelude.{ℕ, ◌+◌, min, List}
use Rattle.chares.specs.declared.entry.Entry.{Entry}
use Rattle.chares.specs.declared.entry.Entry.TheVariants.{Letter, Resumption}

-- a letter: its number, made of the PE that posted it and of how many letters that PE had posted before, the
-- element that it is for, its body, and how often it was forwarded
pub record LetterView : Type 0 where
  pub id : ℕ × ℕ
  pub to : ℕ
  pub body : List ℕ
  pub hops : ℕ

-- the letter with one more hop; hops are counted up to the greatest number of 32 bits
abbrev pub hopped : LetterView → LetterView
hopped l = record { id = l.id; to = l.to; body = l.body; hops = min 4294967295 (l.hops + 1) }

-- an entry of a journal
abbrev pub Done : Type 0
Done = Entry LetterView

-- what a handler is given of an entry: the body of a letter, or the round of a resumption
abbrev pub input_of : Done → Entry (List ℕ)
input_of (Letter l) = Letter l.body
input_of (Resumption round) = Resumption round
