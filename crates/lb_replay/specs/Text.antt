-- What a replay and a check print, byte by byte: the text of a decision, the line of a decision that is right, or the line
-- of a fault.
use Rattle.std.specs.Prelude.{Bool, ◌≡◌, ℕ, ◌+◌, ◌==◌, if◌then◌else◌, List, [], ◌∷◌, ◌++◌, length, slice_index, codes}
use Rattle.std.specs.Fmt.{decimal}
use Rattle.std.specs.List.{flat_map, range_with_len}
use Rattle.dump_format.specs.declared.error.DumpError.{DumpError}
use Rattle.dump_format.specs.declared.error.DumpError.TheVariants.{Magic, Short, Procs, Count, Size, Place, Trailing, Read, Write, Load, Flag, Target, MoveCount, Move, Wide}
use Rattle.lb_strategy.specs.declared.error.PlanError.{PlanError}
use Rattle.lb_replay.specs.declared.fault.Fault.{Fault}
use Rattle.lb_replay.specs.declared.fault.Fault.TheVariants.{Dump, Plan, Flawed, NoDecision}
use Rattle.chain_refinement.specs.Tolerances.{limit_of}
use Rattle.lb_certificates.specs.Certificate.{IsCertified}
use Rattle.lb_certificates.specs.Chain.{block_load, IsDivision}
use Rattle.lb_snapshot.specs.Measured.{Taken}
use Rattle.lb_refinement.specs.Refined.{refined_cuts, refined_least, refined_moved, refined_names}
use Rattle.lb_refinement.specs.declared.nearness.Nearness.{Nearness}
use Rattle.lb_refinement.specs.declared.nearness.Nearness.TheVariants.{InAnyOrder}
use Rattle.lb_refinement.specs.declared.refined.Refined.{Refined}
use Rattle.lb_strategy.specs.declared.decision.Decision.{Decision}
use Rattle.lb_certificates.specs.declared.division.Division.{Division}
use Rattle.lb_certificates.specs.declared.division.Floor.{Floor}
use Rattle.lb_certificates.specs.declared.division.Floor.TheVariants.{Zero, Fence}
use Rattle.lb_certificates.specs.declared.flaw.Flaw.{Flaw}
use Rattle.lb_certificates.specs.declared.flaw.Flaw.TheVariants.{CutCount, CutStart, CutOrder, CutEnd, Heavy, FenceCount, FenceStart, FenceOrder, FenceEnd, FenceLight, ZeroFloor, NameCount, NameRange, NameTwice, PriceCount, PriceHigh, PriceGap, MovedWrong, MovesWrong}

abbrev pub newline : List ℕ
newline = 10 ∷ []

-- step S procs P elements N
abbrev pub head_line : ℕ → ℕ → ℕ → List ℕ
head_line step pes elements =
    codes "step " ++ decimal step ++ codes " procs " ++ decimal pes ++ codes " elements " ++ decimal elements ++ newline

-- bottleneck B
abbrev pub bottleneck_line : ℕ → List ℕ
bottleneck_line bottleneck = codes "bottleneck " ++ decimal bottleneck ++ newline

-- a space and a number
abbrev pub blank_number : ℕ → List ℕ
blank_number n = codes " " ++ decimal n

-- fence s0 s1 .. sP, or fence zero
abbrev pub floor_line : {A : Type 0} → Floor A → List ℕ
floor_line Zero = codes "fence zero" ++ newline
floor_line (Fence stops) = codes "fence" ++ flat_map blank_number stops ++ newline

-- limit L
abbrev pub limit_line : ℕ → List ℕ
limit_line limit = codes "limit " ++ decimal limit ++ newline

-- the PE of a block, or - where the block has no element
abbrev pub pe_line : ℕ → ℕ → ℕ → List ℕ
pe_line first end pe = (if first == end then codes "-" else decimal pe) ++ newline

-- a block, without its PE
abbrev pub block_start : ℕ → ℕ → ℕ → ℕ → List ℕ
block_start b first end weight =
    codes "block " ++ decimal b ++ codes " " ++ decimal first ++ codes ".." ++ decimal end ++ codes " load " ++ decimal weight ++ codes " pe "

-- block b from..to load L pe p
abbrev pub block_line : ℕ → ℕ → ℕ → ℕ → ℕ → List ℕ
block_line b first end weight pe = block_start b first end weight ++ pe_line first end pe

-- the line of block b between these cuts
abbrev pub line_of : List ℕ → List ℕ → List ℕ → ℕ → List ℕ
line_of loads cuts names b =
    block_line b (slice_index cuts b) (slice_index cuts (b + 1)) (block_load loads cuts b) (slice_index names b)

-- the lines of the first blocks, in order
abbrev pub block_lines : List ℕ → List ℕ → List ℕ → ℕ → List ℕ
block_lines loads cuts names blocks = flat_map (line_of loads cuts names) (range_with_len 0 blocks)

-- moved M
abbrev pub moved_line : ℕ → List ℕ
moved_line moved = codes "moved " ++ decimal moved ++ newline

-- the whole text of a decision on a snapshot, for this number of PEs
abbrev pub decision_text : {A : Type 0} → Taken → ℕ → Decision A → List ℕ
decision_text s pes d =
    head_line s.step pes (length s.loads) ++ bottleneck_line d.division.bottleneck ++ floor_line d.division.floor
    ++ block_lines s.loads d.division.cuts d.naming pes ++ moved_line d.moved

-- reordered yes where no cuts within the limit and no names move fewer bytes, and otherwise reordered no
abbrev pub reordered_line : {A : Type 0} → Nearness A → List ℕ
reordered_line (InAnyOrder proof) = codes "reordered yes" ++ newline
reordered_line nearness = codes "reordered no" ++ newline

-- The whole text of a decision within a tolerance on a snapshot, for this number of PEs: the bottleneck and the floor are those of the
-- least division, and the blocks and the bytes that move those of the decision. A line may stand behind the limit.
abbrev pub text_within : {A : Type 0} → Taken → ℕ → ℕ → List ℕ → Division A → List ℕ → List ℕ → ℕ → List ℕ
text_within s pes tolerance line least cuts names moved =
    head_line s.step pes (length s.loads) ++ bottleneck_line least.bottleneck ++ floor_line least.floor
    ++ limit_line (limit_of least.bottleneck tolerance) ++ line ++ block_lines s.loads cuts names pes ++ moved_line moved

-- in any order of the PEs that line says whether it is known that none moves fewer bytes
abbrev pub refined_text : {A : Type 0} → Taken → ℕ → ℕ → Bool → Refined A → List ℕ
refined_text s pes tolerance in_any_order r =
    text_within s pes tolerance (if in_any_order then reordered_line r.nearness else []) (refined_least r) (refined_cuts r) (refined_names r) (refined_moved r)

-- What is printed of a decision is there: a name for each block, as many blocks as names, and a limit that is measured from a
-- certified division.
pub record IsPrintable {A : Type 0} (loads : List ℕ) (pes : ℕ) (r : Refined A) : Type 0 where
  pub named : length (refined_names r) ≡ pes
  pub divides : IsDivision 0 (length loads) (length (refined_names r)) (refined_cuts r)
  pub certified : IsCertified loads pes (refined_least r)

-- the one line for out of memory
abbrev pub memory_line : List ℕ
memory_line = codes "out of memory" ++ newline

-- the one line of a fault of the dump; the numbers in it are the limits of PEs, of elements and of packed bytes
abbrev pub dump_line : DumpError → List ℕ
dump_line Magic = codes "dump: not LBD1 or LBD2" ++ newline
dump_line (Short n) = codes "dump: ends at byte " ++ decimal n ++ newline
dump_line Procs = codes "dump: procs out of 1..256" ++ newline
dump_line Count = codes "dump: more than 65536 elements" ++ newline
dump_line (Size i) = codes "dump: element " ++ decimal i ++ codes " has more than 1048576 bytes" ++ newline
dump_line (Place i) = codes "dump: element " ++ decimal i ++ codes " is on no processor" ++ newline
dump_line Trailing = codes "dump: bytes after the last element" ++ newline
dump_line Read = codes "dump: read failed" ++ newline
dump_line Write = codes "dump: write failed" ++ newline
dump_line DumpError.OutOfMemory = memory_line
dump_line (Load i) = codes "dump: element " ++ decimal i ++ codes " has too great a load" ++ newline
dump_line Flag = codes "dump: flag is not 0 or 1" ++ newline
dump_line Target = codes "dump: target out of 1..256" ++ newline
dump_line DumpError.Floor = codes "dump: floor is not 0 or 1" ++ newline
dump_line MoveCount = codes "dump: more moves than elements" ++ newline
dump_line (Move k) = codes "dump: move " ++ decimal k ++ codes " is out of range" ++ newline
dump_line (Wide i) = codes "dump: write failed" ++ newline

-- what is to be done about a fault in the bytes of a dump
abbrev pub dump_advice : DumpError → List ℕ
dump_advice Magic = codes "a dump begins with LBD1 or LBD2: give one that charm_run --dump wrote, or see docs/FORMATS.md"
dump_advice (Short n) = codes "a dump goes on here: copy it whole, or write it again"
dump_advice Trailing = codes "a dump ends here: give one dump in a file"
dump_advice _ = codes "see docs/FORMATS.md for what is expected there, and write the dump again"

-- the line where the decision of a dump is right, and the one where it has none
abbrev pub right_line : List ℕ
right_line = codes "check: ok" ++ newline

abbrev pub no_decision_line : List ℕ
no_decision_line = codes "check: no decision" ++ newline

-- the name of a flaw
abbrev pub flaw_name : Flaw → List ℕ
flaw_name CutCount = codes "CutCount"
flaw_name CutStart = codes "CutStart"
flaw_name CutOrder = codes "CutOrder"
flaw_name CutEnd = codes "CutEnd"
flaw_name (Heavy b) = codes "Heavy"
flaw_name FenceCount = codes "FenceCount"
flaw_name FenceStart = codes "FenceStart"
flaw_name FenceOrder = codes "FenceOrder"
flaw_name FenceEnd = codes "FenceEnd"
flaw_name (FenceLight i) = codes "FenceLight"
flaw_name ZeroFloor = codes "ZeroFloor"
flaw_name NameCount = codes "NameCount"
flaw_name NameRange = codes "NameRange"
flaw_name NameTwice = codes "NameTwice"
flaw_name PriceCount = codes "PriceCount"
flaw_name (PriceHigh b p) = codes "PriceHigh"
flaw_name PriceGap = codes "PriceGap"
flaw_name MovedWrong = codes "MovedWrong"
flaw_name MovesWrong = codes "MovesWrong"

-- the numbers that a flaw names: its block, its stop, or its block and its PE, each with a space before it
abbrev pub flaw_numbers : Flaw → List ℕ
flaw_numbers (Heavy b) = blank_number b
flaw_numbers (FenceLight i) = blank_number i
flaw_numbers (PriceHigh b p) = blank_number b ++ blank_number p
flaw_numbers _ = []

-- the line of a flaw
abbrev pub flaw_line : Flaw → List ℕ
flaw_line flaw = codes "check: " ++ flaw_name flaw ++ flaw_numbers flaw ++ newline

-- the one line of a fault
abbrev pub fault_line : Fault → List ℕ
fault_line (Dump e) = dump_line e
fault_line (Plan PlanError.OutOfMemory) = memory_line
fault_line (Flawed flaw) = flaw_line flaw
fault_line NoDecision = no_decision_line
