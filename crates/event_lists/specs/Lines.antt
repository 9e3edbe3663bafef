-- What the reader does with a line, step by step. No public clause uses these definitions.
use Rattle.std.specs.Prelude.{ℕ, ◌+◌, ◌*◌, ◌-◌, Bool, true, false, ◌==◌, ◌&&◌, ◌||◌, if◌then◌else◌}
use Rattle.std.specs.Prelude.{List, [], ◌∷◌, codes, Option, None, Some}
use Rattle.std.specs.Option.{option_and_then}
use Rattle.std.specs.Char.{is_ascii_digit}
use Rattle.rts_core.specs.declared.event.Event.{Event}
use Rattle.event_lists.specs.declared.form.TheConstants.{DIGITS}
use Rattle.event_lists.specs.declared.name.Name.{Name}
use Rattle.event_lists.specs.declared.name.Name.TheVariants.{Start, Look, Flush, Deliver, Act, Report, Decide, Depart, Resume}

-- the bytes of a name
abbrev pub name_text : Name → List ℕ
name_text Start = codes "Start"
name_text Look = codes "Look"
name_text Flush = codes "Flush"
name_text Deliver = codes "Deliver"
name_text Act = codes "Act"
name_text Report = codes "Report"
name_text Decide = codes "Decide"
name_text Depart = codes "Depart"
name_text Resume = codes "Resume"

-- whether a PE follows it
abbrev pub has_pe : Name → Bool
has_pe Decide = false
has_pe _ = true

-- whether an element follows that
abbrev pub has_element : Name → Bool
has_element Start = true
has_element Depart = true
has_element Resume = true
has_element _ = false

-- the event of this name with these numbers, of which it takes those that follow its name
abbrev pub event_of : Name → ℕ → ℕ → Event
event_of Start p e = Event.Start p e
event_of Look p e = Event.Look p
event_of Flush p e = Event.Flush p
event_of Deliver p e = Event.Deliver p
event_of Act p e = Event.Act p
event_of Report p e = Event.Report p
event_of Decide p e = Event.Decide
event_of Depart p e = Event.Depart p e
event_of Resume p e = Event.Resume p e

-- the bytes after a word that they begin with
abbrev pub behind : List ℕ → List ℕ → Option (List ℕ)
behind [] bytes = Some bytes
behind (c ∷ word) [] = None
behind (c ∷ word) (b ∷ bytes) = if b == c then behind word bytes else None

-- this name, where the bytes begin with it, and otherwise the other answer
abbrev pub or_else : Name → Option (List ℕ) → Option (Name × List ℕ) → Option (Name × List ℕ)
or_else name (Some rest) other = Some (name, rest)
or_else name None other = other

-- the first of these names that the bytes begin with, and what is after it
abbrev pub first_name : List Name → List ℕ → Option (Name × List ℕ)
first_name [] bytes = None
first_name (name ∷ names) bytes = or_else name (behind (name_text name) bytes) (first_name names bytes)

-- the name that bytes begin with, and what is after it
abbrev pub name_at : List ℕ → Option (Name × List ℕ)
name_at bytes = first_name (Start ∷ Look ∷ Flush ∷ Deliver ∷ Act ∷ Report ∷ Decide ∷ Depart ∷ Resume ∷ []) bytes

-- no digit may follow: the number has as many as it may, or is a zero
abbrev pub is_full : ℕ → ℕ → Bool
is_full value digits = (digits == DIGITS) || ((digits == 1) && (value == 0))

-- a number that has this number of digits, and what is after it
abbrev pub whole : ℕ → ℕ → List ℕ → Option (ℕ × List ℕ)
whole value digits rest = if digits == 0 then None else Some (value, rest)

-- the number that goes on after this number of digits of this value
unfoldable pub digits_at : ℕ → ℕ → List ℕ → Option (ℕ × List ℕ)
digits_at value digits [] = whole value digits []
digits_at value digits (b ∷ bytes) =
    if is_ascii_digit b
    then (if is_full value digits then None else digits_at (10 * value + (b - 48)) (digits + 1) bytes)
    else whole value digits (b ∷ bytes)

-- the number after a blank, where one is wanted, and otherwise 0
abbrev pub number_at : Bool → List ℕ → Option (ℕ × List ℕ)
number_at false bytes = Some (0, bytes)
number_at true bytes = option_and_then (digits_at 0 0) (behind (32 ∷ []) bytes)

-- what a line says: its name, the numbers after it, 0 for each that it does not have, and the bytes after the line
pub record Line : Type 0 where
  pub name : Name
  pub pe : ℕ
  pub element : ℕ
  pub rest : List ℕ

-- the end of a line after its element
abbrev pub line_behind_element : Name → ℕ → ℕ × List ℕ → Option Line
line_behind_element name p e =
    option_and_then (λ rest. Some (record { name = name; pe = p; element = e.0; rest = rest })) (behind (10 ∷ []) e.1)

-- the rest of a line after its PE
abbrev pub line_behind_pe : Name → ℕ × List ℕ → Option Line
line_behind_pe name p = option_and_then (line_behind_element name p.0) (number_at (has_element name) p.1)

-- the rest of a line after its name
abbrev pub line_behind_name : Name × List ℕ → Option Line
line_behind_name n = option_and_then (line_behind_pe n.0) (number_at (has_pe n.0) n.1)

-- the line at the front of these bytes
abbrev pub line_at : List ℕ → Option Line
line_at bytes = option_and_then line_behind_name (name_at bytes)

-- the event of a line
abbrev pub line_event : Line → Event
line_event line = event_of line.name line.pe line.element
