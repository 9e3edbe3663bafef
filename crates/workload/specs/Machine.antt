-- What one byte does to a reader of a workload. No public clause uses these definitions.
use Rattle.std.specs.Prelude.{◌≡◌, ℕ, ◌+◌, ◌*◌, ◌-◌, ◌^◌, ◌<◌, ◌≤◌, ◌⊎◌, Bool, false, ◌==◌, ◌&&◌, ◌||◌, nat_lt}
use Rattle.std.specs.Prelude.{if◌then◌else◌, List, [], ◌∷◌, ◌++◌, length, map, slice_index, Option, Some, None, Result, Ok, Err, ⊤}
use Rattle.std.specs.Char.{is_ascii_digit}
use Rattle.tally.specs.declared.tally_limits.TheConstants.TallyLimits.{AMOUNTS}
use Rattle.workload.specs.declared.error.WorkError.{WorkError}
use Rattle.workload.specs.declared.error.WorkError.TheVariants.{Form, Limit, OutOfMemory}
use Rattle.workload.specs.declared.form.Line.{Line}
use Rattle.workload.specs.declared.form.Line.TheVariants.{Pes, Rounds, Pad, Chares, Amounts}
use Rattle.workload.specs.declared.form.TheConstants.{DIGITS, BLANK, NEWLINE}
use Rattle.workload.specs.declared.judge.Spot.{Spot}
use Rattle.workload.specs.declared.judge.Spot.TheVariants.{Word, Number}
use Rattle.workload.specs.declared.judge.Judge.{Judge}
use Rattle.workload.specs.Text.{WorkloadView}
use Rattle.workload.specs.Faults.{LineForm, pes_form, rounds_form, pad_form, chares_form, amounts_form, next_form, is_whole, in_range}

-- what a line of this kind has to be
abbrev pub form_of : Line → ℕ → LineForm
form_of Pes chares = pes_form
form_of Rounds chares = rounds_form
form_of Pad chares = pad_form
form_of Chares chares = chares_form
form_of Amounts chares = amounts_form chares

-- How far a reader is: the lines that are complete, what the next line has to be, the spot in it, how many numbers
-- have yet to begin, and the numbers that are complete, unless one of them is out of its range.
pub record State : Type 0 where
  pub lines : List (List ℕ)
  pub form : LineForm
  pub spot : Spot
  pub left : ℕ
  pub row : Option (List ℕ)

-- at the start of the line after these
abbrev pub start : List (List ℕ) → State
start lines = record { lines = lines; form = next_form lines; spot = Word 0; left = (next_form lines).count; row = Some [] }

-- one more number, unless it is out of its range
abbrev pub add : LineForm → Option (List ℕ) → ℕ → Option (List ℕ)
add form None n = None
add form (Some row) n = if in_range form n then Some (row ++ n ∷ []) else None

abbrev pub line_number : State → ℕ
line_number s = length s.lines + 1

-- a line ends
unfoldable pub ended : List (List ℕ) → Option (List ℕ) → Result State WorkError
ended lines None = Err (Limit (length lines + 1))
ended lines (Some row) = Ok (start (lines ++ row ∷ []))

-- a byte between two numbers: a blank where another follows, or else a newline
unfoldable pub turn : State → ℕ → Result State WorkError
turn s b =
    if s.left == 0
    then (if b == NEWLINE then ended s.lines s.row else Err (Form (line_number s)))
    else (if b == BLANK then Ok (record s { spot = Number 0 0; left = s.left - 1 }) else Err (Form (line_number s)))

-- no digit may follow: the number has as many as it may, or is a zero
abbrev pub is_full : ℕ → ℕ → Bool
is_full value digits = (digits == DIGITS) || ((digits == 1) && (value == 0))

-- a byte at a spot
unfoldable pub step_at : Spot → State → ℕ → Result State WorkError
step_at (Word at) s b =
    if nat_lt at (length s.form.word)
    then (if b == slice_index s.form.word at then Ok (record s { spot = Word (at + 1) }) else Err (Form (line_number s)))
    else turn s b
step_at (Number value digits) s b =
    if is_ascii_digit b
    then (if is_full value digits then Err (Form (line_number s)) else Ok (record s { spot = Number (10 * value + (b - 48)) (digits + 1) }))
    else (if digits == 0 then Err (Form (line_number s)) else turn (record s { row = add s.form s.row value }) b)

unfoldable pub step : State → ℕ → Result State WorkError
step s b = if is_whole s.lines then Err (Form (line_number s)) else step_at s.spot s b

-- bytes one after another
abbrev pub then_run : (State → Result State WorkError) → Result State WorkError → Result State WorkError
then_run f (Ok s) = f s
then_run f (Err e) = Err e

unfoldable pub run : List ℕ → State → Result State WorkError
run [] s = Ok s
run (b ∷ bytes) s = then_run (run bytes) (step s b)

-- the bytes before these last ones bring a reader from one state to another
pub record Reaches (bytes : List ℕ) (s : State) (rest : List ℕ) (t : State) : Type 0 where
  pub front : List ℕ
  pub split : bytes ≡ front ++ rest
  pub came : run front s ≡ Ok t

-- the line of a round is not complete
abbrev pub IsGrowing : State → Type 0
IsGrowing s = (4 ≤ length s.lines) × (is_whole s.lines ≡ false)

-- among these bytes is a part of such a line
pub record Grows (s : State) (bytes : List ℕ) : Type 0 where
  pub front : List ℕ
  pub rest : List ℕ
  pub at : State
  pub split : bytes ≡ front ++ rest
  pub came : run front s ≡ Ok at
  pub growing : IsGrowing at

-- the lines of a workload
abbrev pub lines_of_view : WorkloadView → List (List ℕ)
lines_of_view w = (w.pes ∷ []) ∷ (w.rounds ∷ []) ∷ (w.pad ∷ []) ∷ (w.chares ∷ []) ∷ w.amounts

-- of a reader in the code: the lines that are complete, and the numbers of the line that is not
abbrev pub lines_of : {A : Type 0} → Line → Judge A → List (List ℕ)
lines_of Pes judge = []
lines_of Rounds judge = (judge.pes ∷ []) ∷ []
lines_of Pad judge = (judge.pes ∷ []) ∷ (judge.rounds ∷ []) ∷ []
lines_of Chares judge = (judge.pes ∷ []) ∷ (judge.rounds ∷ []) ∷ (judge.pad ∷ []) ∷ []
lines_of Amounts judge =
    (judge.pes ∷ []) ∷ (judge.rounds ∷ []) ∷ (judge.pad ∷ []) ∷ (judge.chares ∷ []) ∷ map (λ row. row.items) judge.amounts.items

abbrev pub row_of : {A : Type 0} → Judge A → Option (List ℕ)
row_of judge = if judge.past then None else Some judge.row.items

abbrev pub state_of : {A : Type 0} → Judge A → State
state_of judge =
    record { lines = lines_of judge.line judge; form = form_of judge.line judge.chares; spot = judge.spot; left = judge.left; row = row_of judge }

-- a number has no more digits than it may, and is no larger than these digits can express
abbrev pub IsSpot : Spot → Type 0
IsSpot (Word at) = Unit {0}
IsSpot (Number value digits) = (digits ≤ DIGITS) × (value < 10 ^ digits)

-- the numbers that have begun
abbrev pub begun : Spot → ℕ
begun (Word at) = 0
begun (Number value digits) = 1

-- a line with only one number keeps none of its numbers: it ends with it
abbrev pub HoldsLine : {A : Type 0} → Line → Judge A → Type 0
HoldsLine Amounts judge = length judge.amounts.items ≤ judge.rounds
HoldsLine line judge =
    (judge.amounts.items ≡ []) × (judge.row.items ≡ []) × (judge.past ≡ false) × (judge.left + begun judge.spot ≡ 1)

-- what is true of a reader between two bytes
pub record IsHeld {A : Type 0} (judge : Judge A) : Type 0 where
  pub spot : IsSpot judge.spot
  pub rounds : judge.rounds ≤ AMOUNTS
  pub line : HoldsLine judge.line judge

-- what a reader did with these bytes: it holds them, or it stopped at their fault, or out of memory
abbrev pub IsJudged : {A : Type 0} → List ℕ → Judge A → Result ⊤ WorkError → Type 0
IsJudged text judge (Ok x) = (run text (start []) ≡ Ok (state_of judge)) × IsHeld judge
IsJudged text judge (Err e) = (e ≡ OutOfMemory) ⊎ (run text (start []) ≡ Err e)
