-- Which fault of bytes that are no workload is reported: that of the first faulty line.
use Rattle.std.specs.Prelude.{◌≡◌, ℕ, ◌+◌, ◌^◌, ◌<◌, ◌≤◌, ◌⊎◌, Bool, false, IsTrue, ◌==◌, ◌&&◌, nat_le, List, [], ◌∷◌, ◌++◌, length, slice_index, codes, All}
use Rattle.chare_index.specs.declared.limits.TheConstants.Limits.{ELEMENTS, PES}
use Rattle.tally.specs.declared.tally_limits.TheConstants.TallyLimits.{AMOUNTS, PAD_BYTES}
use Rattle.workload.specs.declared.error.WorkError.{WorkError}
use Rattle.workload.specs.declared.error.WorkError.TheVariants.{Form, Limit, Long, Read, OutOfMemory}
use Rattle.workload.specs.declared.form.TheConstants.{DIGITS, TEXT_BYTES}
use Rattle.workload.specs.Text.{line, most_amount}

-- what a line has to be: its word, how many numbers it has, and their range
pub record LineForm : Type 0 where
  pub word : List ℕ
  pub count : ℕ
  pub least : ℕ
  pub most : ℕ

-- pes P, where P is 1 to 256
abbrev pub pes_form : LineForm
pes_form = record { word = codes "pes"; count = 1; least = 1; most = PES }

-- rounds R
abbrev pub rounds_form : LineForm
rounds_form = record { word = codes "rounds"; count = 1; least = 0; most = AMOUNTS }

-- pad D
abbrev pub pad_form : LineForm
pad_form = record { word = codes "pad"; count = 1; least = 0; most = PAD_BYTES }

-- chares N
abbrev pub chares_form : LineForm
chares_form = record { word = codes "chares"; count = 1; least = 0; most = ELEMENTS }

-- an amount for each of these chares
abbrev pub amounts_form : ℕ → LineForm
amounts_form chares = record { word = codes "amounts"; count = chares; least = 0; most = most_amount }

-- the number of a line that has just one
abbrev pub only : List ℕ → ℕ
only numbers = slice_index numbers 0

-- what the line after these has to be, if there is one; a line is given by its numbers
abbrev pub next_form : List (List ℕ) → LineForm
next_form [] = pes_form
next_form (pes ∷ []) = rounds_form
next_form (pes ∷ rounds ∷ []) = pad_form
next_form (pes ∷ rounds ∷ pad ∷ []) = chares_form
next_form (pes ∷ rounds ∷ pad ∷ chares ∷ amounts) = amounts_form (only chares)

-- these are all lines: four, and one for each round
abbrev pub is_whole : List (List ℕ) → Bool
is_whole (pes ∷ rounds ∷ pad ∷ chares ∷ amounts) = length amounts == only rounds
is_whole _ = false

-- whether a number is in the range of a line
abbrev pub in_range : LineForm → ℕ → Bool
in_range form n = nat_le form.least n && nat_le n form.most

-- as many numbers as the line has to have, each of ten digits at most
pub record IsFormed (form : LineForm) (numbers : List ℕ) : Type 0 where
  pub counted : length numbers ≡ form.count
  pub short : All (λ n. n < 10 ^ DIGITS) numbers

-- a formed line, each of whose numbers is in its range
pub record IsLine (form : LineForm) (numbers : List ℕ) : Type 0 where
  pub formed : IsFormed form numbers
  pub ranged : All (λ n. IsTrue (in_range form n)) numbers

-- after some lines these further ones are good
abbrev pub AreLines : List (List ℕ) → List (List ℕ) → Type 0
AreLines before [] = Unit {0}
AreLines before (numbers ∷ lines) =
    (is_whole before ≡ false) × IsLine (next_form before) numbers × AreLines (before ++ numbers ∷ []) lines

-- their text
abbrev pub lines_text : List (List ℕ) → List (List ℕ) → List ℕ
lines_text before [] = []
lines_text before (numbers ∷ lines) =
    line (next_form before).word numbers ++ lines_text (before ++ numbers ∷ []) lines

-- these bytes do not begin with a line of its form
abbrev pub IsMalformed : LineForm → List ℕ → Type 0
IsMalformed form bytes =
    (numbers tail : List ℕ) → IsFormed form numbers → bytes ≡ line form.word numbers ++ tail → ⊥

-- these bytes begin with a line of its form that has a number out of its range
pub record IsPast (form : LineForm) (bytes : List ℕ) : Type 0 where
  pub numbers : List ℕ
  pub tail : List ℕ
  pub formed : IsFormed form numbers
  pub spelled : bytes ≡ line form.word numbers ++ tail
  pub past : All (λ n. IsTrue (in_range form n)) numbers → ⊥

-- After these lines the next one is not of its form, which includes that it is missing; or these are all lines,
-- and bytes follow.
abbrev pub IsFormless : List (List ℕ) → List ℕ → Type 0
IsFormless lines bytes =
    ((is_whole lines ≡ false) × IsMalformed (next_form lines) bytes) ⊎ (IsTrue (is_whole lines) × (0 < length bytes))

-- after some lines there are good ones, and then a faulty line
pub record IsFaulty (before : List (List ℕ)) (bytes : List ℕ) (Fault : List (List ℕ) → List ℕ → Type 0) (number : ℕ) : Type 0 where
  pub lines : List (List ℕ)
  pub rest : List ℕ
  pub good : AreLines before lines
  pub spelled : bytes ≡ lines_text before lines ++ rest
  pub fault : Fault (before ++ lines) rest
  pub numbered : number ≡ length (before ++ lines) + 1

-- the fault of the first faulty line after some lines
abbrev pub IsLineFaultAfter : List (List ℕ) → List ℕ → WorkError → Type 0
IsLineFaultAfter before bytes (Form n) = IsFaulty before bytes IsFormless n
IsLineFaultAfter before bytes (Limit n) =
    IsFaulty before bytes (λ lines rest. (is_whole lines ≡ false) × IsPast (next_form lines) rest) n
IsLineFaultAfter before bytes Long = ⊥
IsLineFaultAfter before bytes Read = ⊥
IsLineFaultAfter before bytes OutOfMemory = ⊥

-- the fault of the first faulty line, however long the text is
abbrev pub IsLineFault : List ℕ → WorkError → Type 0
IsLineFault bytes e = IsLineFaultAfter [] bytes e

-- the fault of bytes that are no text of a workload
abbrev pub IsFault : List ℕ → WorkError → Type 0
IsFault bytes Long = TEXT_BYTES < length bytes
IsFault bytes e = (length bytes ≤ TEXT_BYTES) × IsLineFault bytes e

-- the fault that these bytes have, whatever follows them
abbrev pub IsBroken : List ℕ → WorkError → Type 0
IsBroken bytes e = (more : List ℕ) → IsLineFault (bytes ++ more) e

-- no fault is certain yet, though these bytes may be no text as they are
abbrev pub IsOpen : List ℕ → Type 0
IsOpen bytes = (e : WorkError) → IsBroken bytes e → ⊥

-- the number of a kind of fault
abbrev pub error_number : WorkError → ℕ
error_number (Form n) = 1
error_number (Limit n) = 2
error_number Long = 3
error_number Read = 4
error_number OutOfMemory = 5
