-- Which fault of a text is reported: the first one from left to right.
use Rattle.std.specs.Prelude.{◌≡◌, ◌⊎◌, ℕ, List, length, Option, Some, None}
use Rattle.dump_format.specs.Layout.{Verdict, Whole, Unfinished, Broken, judge}
use Rattle.dump_format.specs.Fields.{dump}
use Rattle.dump_format.specs.declared.error.DumpError.{DumpError}
use Rattle.dump_format.specs.declared.error.DumpError.TheVariants.{Magic, Short, Procs, Count, Size, Place, Trailing, Read, Write, OutOfMemory, Load, Flag, Target, Floor, MoveCount, Move, Wide}

-- a whole text, to which nothing may be added
abbrev pub IsWhole : List ℕ → Type 0
IsWhole text = judge dump text ≡ Whole

-- nothing is wrong with these bytes, though more may have to follow
abbrev pub IsGood : List ℕ → Type 0
IsGood text = IsWhole text ⊎ (judge dump text ≡ Unfinished)

-- the fault that a byte of the text brings, whatever follows it
abbrev pub IsBroken : List ℕ → DumpError → Type 0
IsBroken text e = judge dump text ≡ Broken e

-- the first fault of a text of n bytes that ends here, by what was found in it
abbrev pub fault_found : Verdict → ℕ → Option DumpError
fault_found Whole n = None
fault_found Unfinished n = Some (Short n)
fault_found (Broken e) n = Some e

-- the first fault of a text: that of a field or of a byte after the last one, or that it ends before its last field does
abbrev pub IsFault : List ℕ → DumpError → Type 0
IsFault text e = fault_found (judge dump text) (length text) ≡ Some e

-- a fault that the text itself may have: of a field, or a byte after the last one
abbrev pub IsTextFault : DumpError → Type 0
IsTextFault (Short n) = ⊥
IsTextFault Read = ⊥
IsTextFault Write = ⊥
IsTextFault OutOfMemory = ⊥
IsTextFault (Wide i) = ⊥
IsTextFault e = Unit {0}

-- the number of a kind of fault
abbrev pub fault_number : DumpError → ℕ
fault_number Magic = 1
fault_number (Short n) = 2
fault_number Procs = 3
fault_number Count = 4
fault_number (Size i) = 5
fault_number (Place i) = 6
fault_number Trailing = 7
fault_number Read = 8
fault_number Write = 9
fault_number OutOfMemory = 10
fault_number (Load i) = 11
fault_number Flag = 12
fault_number Target = 13
fault_number Floor = 14
fault_number MoveCount = 15
fault_number (Move k) = 16
fault_number (Wide i) = 17
