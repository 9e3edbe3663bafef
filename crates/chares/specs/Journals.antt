-- The journal of an element, kept as its letters, and its resumptions with their places among the letters.
use Rattle.std.specs.Prelude.{ℕ, ◌-◌, ◌≤◌, List, [], ◌∷◌, ◌++◌, map, take, drop, Option, Some, None}
use Rattle.chares.specs.Letters.{LetterView, Done}
use Rattle.chares.specs.declared.entry.Entry.TheVariants.{Letter, Resumption}
use Rattle.chares.specs.declared.journal.ResumedAt.{ResumedAt}

-- a journal: its entries, and how many more letters and resumptions there is memory for
pub record JournalView : Type 0 where
  pub entries : List Done
  pub letter_room : ℕ
  pub resumption_room : ℕ

-- the entries behind the first k letters: the other letters, with each resumption put in behind the number of letters that
-- came before it
abbrev pub entries_from : ℕ → List LetterView → List ResumedAt → List Done
entries_from k letters [] = map Letter letters
entries_from k letters (r ∷ rs) = map Letter (take (r.letters - k) letters) ++ Resumption r.round ∷ entries_from r.letters (drop (r.letters - k) letters) rs

-- the numbers of letters before these resumptions do not fall, and are between k and n
abbrev pub AreInOrder : ℕ → ℕ → List ResumedAt → Type 0
AreInOrder k n [] = k ≤ n
AreInOrder k n (r ∷ rs) = (k ≤ r.letters) × AreInOrder r.letters n rs

-- the letter of an entry that is one
abbrev pub letter_of : Done → Option LetterView
letter_of (Letter l) = Some l
letter_of (Resumption round) = None
