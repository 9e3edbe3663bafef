-- The text of a report, byte by byte: a line for each placement, or one for each element that moves, as a table for people
-- or as comma-separated values for programs.
use Rattle.std.specs.Prelude.{ℕ, ◌≡◌, ◌⊎◌, IsTrue, IsFalse, ◌-◌, ◌*◌, ◌/◌, ◌%◌, ◌==◌, Bool, true, false, if◌then◌else◌, List, [], ◌∷◌, ◌++◌, length, max, slice_index_or, codes}
use Rattle.std.specs.Fmt.{decimal}
use Rattle.std.specs.Int.{div_ceil}
use Rattle.std.specs.List.{flat_map, repeat}
use Rattle.lb_snapshot.specs.Measured.{Taken}
use Rattle.lb_strategy.specs.Decisions.{IsRight}
use Rattle.lb_strategy.specs.declared.decision.Decision.{Decision}
use Rattle.lb_refinement.specs.Refined.{refined_cuts, refined_moves, refined_names}
use Rattle.lb_refinement.specs.declared.refined.Refined.{Refined}
use Rattle.load_report.specs.Figures.{change_of, nearest, planned_places, present_places, refined_change, spread_of, traffic_of}
use Rattle.load_report.specs.declared.cell.Cell.{Cell}
use Rattle.load_report.specs.declared.cell.Cell.TheVariants.{Flawed, Nothing, Number, Planned, Present, Recorded, Thousandths, Within}
use Rattle.load_report.specs.declared.changes.Changes.{Changes}
use Rattle.load_report.specs.declared.figures.Change.{Change}
use Rattle.load_report.specs.declared.figures.Spread.{Spread}
use Rattle.load_report.specs.declared.style.Style.{Style}
use Rattle.load_report.specs.declared.traffic.Traffic.{Traffic}

abbrev pub newline : List ℕ
newline = 10 ∷ []

-- a quotient in thousandths, rounded down, and nothing where it is a quotient by 0
abbrev pub ratio : ℕ → ℕ → Cell
ratio above below = if below == 0 then Nothing else Thousandths (above * 1000 / below)

-- the text of a cell: a number, one with three decimals, or a word
abbrev pub cell_text : Cell → List ℕ
cell_text Nothing = codes "-"
cell_text Present = codes "present"
cell_text Planned = codes "planned"
cell_text Within = codes "within"
cell_text Recorded = codes "recorded"
cell_text Flawed = codes "flawed"
cell_text (Number n) = decimal n
cell_text (Thousandths n) =
    decimal (n / 1000) ++ codes "." ++ decimal (n / 100 % 10) ++ decimal (n / 10 % 10) ++ decimal (n % 10)

-- the text of a value, which is empty where there is none
abbrev pub value_text : Cell → List ℕ
value_text Nothing = []
value_text cell = cell_text cell

-- a cell of a table, at the right end of this number of columns, and a blank
abbrev pub aligned : ℕ × Cell → List ℕ
aligned column =
    repeat (column.0 - length (cell_text column.1)) (codes " ") ++ cell_text column.1 ++ codes " "

-- a value behind a comma
abbrev pub separated : ℕ × Cell → List ℕ
separated column = codes "," ++ value_text column.1

-- a name in quotes, with each quote in it twice
abbrev pub quoted_byte : ℕ → List ℕ
quoted_byte byte = if byte == 34 then 34 ∷ 34 ∷ [] else byte ∷ []

abbrev pub quoted : List ℕ → List ℕ
quoted name = 34 ∷ flat_map quoted_byte name ++ 34 ∷ []

-- a line about a file: the table has its name last, and values have it first
abbrev pub line : Bool → List ℕ → List (ℕ × Cell) → List ℕ
line false name columns = flat_map aligned columns ++ name ++ newline
line true name columns = quoted name ++ flat_map separated columns ++ newline

-- the line of the names of the columns
abbrev pub head_line : Style → List ℕ
head_line style =
    if style.csv then (if style.moves then codes "file,procs,element,from,to,bytes\n" else codes
    "file,placement,procs,elements,max,avg,imbalance,least,moved,moved_percent,bytes,bytes_percent,empty,idle,min,heaviest,bound,deviation,excess_percent,leave,enter,step\n") else (if style.moves then codes "procs element  from    to    bytes file\n" else codes "placement procs elements           max               avg imbalance         least  moved  moved%       bytes  bytes% empty  idle           min      heaviest         bound deviation   excess%       leave       enter       step file\n")

-- the least that the greatest load can be: no PE has less than the average, nor than the heaviest element
abbrev pub bound : Spread → Cell
bound s = if s.pes == 0 then Nothing else Number (max s.heaviest (div_ceil s.total s.pes))

-- the standard deviation over the average, where there is load
abbrev pub deviation : Spread → Cell
deviation s = if s.total == 0 then Nothing else Thousandths s.deviation

-- how far the greatest load is above the average, in per cent of the average, rounded to the nearest
abbrev pub excess : Spread → Cell
excess s = if s.total == 0 then Nothing else Thousandths (nearest (100000 * (s.greatest * s.pes - s.total)) s.total)

-- what is reported of what changes: nothing for the present placement
abbrev pub unchanged : Changes
unchanged = record { least = Nothing; moved = Nothing; moved_share = Nothing; bytes = Nothing; bytes_share = Nothing; leave = Nothing; enter = Nothing }

abbrev pub changes_of : Spread → Change → Traffic → Changes
changes_of s c t = record {
  least = Number c.least;
  moved = Number c.moved;
  moved_share = ratio (100 * c.moved) s.elements;
  bytes = Number c.bytes;
  bytes_share = ratio (100 * c.bytes) c.all_bytes;
  leave = Number t.leave;
  enter = Number t.enter;
}

-- the columns of a placement of this kind, in a dump of this step
abbrev pub placement_columns : Cell → ℕ → Spread → Changes → List (ℕ × Cell)
placement_columns word step s c =
    (9, word) ∷ (5, Number s.pes) ∷ (8, Number s.elements) ∷ (13, Number s.greatest) ∷ (17, ratio s.total s.pes) ∷ (
      9,
      ratio (s.greatest * s.pes) s.total,
    ) ∷ (13, c.least) ∷ (6, c.moved) ∷ (7, c.moved_share) ∷ (11, c.bytes) ∷ (7, c.bytes_share) ∷ (
      5,
      Number s.empty,
    ) ∷ (5, Number s.idle) ∷ (13, Number s.least) ∷ (13, Number s.heaviest) ∷ (13, bound s) ∷ (9, deviation s) ∷ (
      9,
      excess s,
    ) ∷ (11, c.leave) ∷ (11, c.enter) ∷ (10, Number step) ∷ []

-- the columns of a decision with a flaw, for which nothing is counted
abbrev pub flawed_columns : ℕ → ℕ → ℕ → List (ℕ × Cell)
flawed_columns step pes elements =
    (9, Flawed) ∷ (5, Number pes) ∷ (8, Number elements) ∷ (13, Nothing) ∷ (17, Nothing) ∷ (9, Nothing) ∷ (13, Nothing) ∷ (6, Nothing) ∷ (
      7,
      Nothing,
    ) ∷ (11, Nothing) ∷ (7, Nothing) ∷ (5, Nothing) ∷ (5, Nothing) ∷ (13, Nothing) ∷ (13, Nothing) ∷ (13, Nothing) ∷ (
      9,
      Nothing,
    ) ∷ (9, Nothing) ∷ (11, Nothing) ∷ (11, Nothing) ∷ (10, Number step) ∷ []

-- the columns of an element that moves
abbrev pub move_columns : List (ℕ × ℕ) → ℕ → ℕ × ℕ × ℕ → List (ℕ × Cell)
move_columns sizes pes move =
    (5, Number pes) ∷ (7, Number move.0) ∷ (5, Number move.1) ∷ (5, Number move.2) ∷ (8, Number (slice_index_or sizes move.0 (0, 0)).0) ∷ []

-- the line of the present placement, which is written where no moves are asked for
abbrev pub present_line : Bool → List ℕ → Taken → List ℕ
present_line csv name s =
    line csv name (placement_columns Present s.step (spread_of s.loads (present_places s.sizes) s.procs) unchanged)

abbrev pub present_text : Style → List ℕ → Taken → List ℕ
present_text style name s = if style.moves then [] else present_line style.csv name s

-- the lines of the elements that a decision moves
abbrev pub move_lines : Bool → List ℕ → List (ℕ × ℕ) → ℕ → List (ℕ × ℕ × ℕ) → List ℕ
move_lines csv name sizes pes moves =
    flat_map (λ move. line csv name (move_columns sizes pes move)) moves

-- the line of a placement on this number of PEs, with what a decision for it changes
abbrev pub changed_line : Cell → Bool → List ℕ → Taken → ℕ → List ℕ → Change → List ℕ
changed_line word csv name s pes places change =
    line csv name (placement_columns word s.step (spread_of s.loads places pes) (changes_of (spread_of s.loads places pes) change (traffic_of s places pes)))

-- the line of a decision for this number of PEs
abbrev pub decision_line : {A : Type 0} → Cell → Bool → List ℕ → Taken → ℕ → Decision A → List ℕ
decision_line word csv name s pes d =
    changed_line word csv name s pes (planned_places d.division.cuts d.naming (length s.sizes)) (change_of s d)

-- what is reported of a planned decision: its line, or those of its moves
abbrev pub planned_text : {A : Type 0} → Style → List ℕ → Taken → ℕ → Decision A → List ℕ
planned_text style name s pes d =
    if style.moves then move_lines style.csv name s.sizes pes d.moves else decision_line Planned style.csv name s pes d

-- the line of a decision for this number of PEs within a tolerance
abbrev pub refined_line : {A : Type 0} → Bool → List ℕ → Taken → ℕ → Refined A → List ℕ
refined_line csv name s pes r =
    changed_line Within csv name s pes (planned_places (refined_cuts r) (refined_names r) (length s.sizes)) (refined_change s r)

-- what is reported of a decision within a tolerance: its line, or those of its moves
abbrev pub refined_text : {A : Type 0} → Style → List ℕ → Taken → ℕ → Refined A → List ℕ
refined_text style name s pes r =
    if style.moves then move_lines style.csv name s.sizes pes (refined_moves r) else refined_line style.csv name s pes r

-- the line of a decision with a flaw
abbrev pub flawed_line : Bool → List ℕ → Taken → ℕ → List ℕ
flawed_line csv name s pes = line csv name (flawed_columns s.step pes (length s.loads))

-- This is what is reported of a recorded decision, where no moves are asked for: its line if it is right, and if it is not,
-- that it has a flaw.
abbrev pub IsRecordedText : {A : Type 0} → Style → List ℕ → Taken → ℕ → Decision A → List ℕ → Type 0
IsRecordedText style name s pes d text =
    (IsTrue style.moves × (text ≡ []))
    ⊎ (IsFalse style.moves
    × ((IsRight s.loads s.sizes pes d × (text ≡ decision_line Recorded style.csv name s pes d))
    ⊎ ((IsRight s.loads s.sizes pes d → ⊥) × (text ≡ flawed_line style.csv name s pes))))
