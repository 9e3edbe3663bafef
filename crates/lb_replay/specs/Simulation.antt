-- How a replay of a dump ends, and what its writer has then.
use Rattle.std.specs.Prelude.{◌≡◌, ℕ, ◌≤◌, ◌⊎◌, true, false, List, Option, IfSome, unwrap_or}
use Rattle.std.specs.Io.KnownBytes.{Appends, Consumes, IsAtEnd}
use Rattle.lb_snapshot.specs.Measured.{Taken}
use Rattle.lb_certificates.specs.Naming.{IsLeastNaming}
use Rattle.chain_partition.specs.Chosen.{IsChosen}
use Rattle.dump_format.specs.Dumps.{Dumped}
use Rattle.dump_format.specs.Faults.{IsFault, IsGood}
use Rattle.dump_format.specs.Text.{IsText}
use Rattle.dump_format.specs.declared.error.DumpError.{DumpError}
use Rattle.dump_format.specs.declared.error.DumpError.TheVariants.{Read}
use Rattle.lb_refinement.specs.InOrder.{IsRefinedInOrder}
use Rattle.lb_refinement.specs.Refined.{IsRefined, refined_moved}
use Rattle.lb_refinement.specs.declared.refined.Refined.{Refined}
use Rattle.lb_any_order.specs.Reorderings.{IsReordering}
use Rattle.lb_strategy.specs.Decisions.{IsRight}
use Rattle.lb_strategy.specs.declared.decision.Decision.{Decision}
use Rattle.lb_strategy.specs.declared.error.PlanError.{PlanError}
use Rattle.streams.specs.Writing.{WritesPrefix}
use Rattle.lb_replay.specs.Text.{decision_text, fault_line, refined_text}
use Rattle.lb_replay.specs.declared.ended.Ended.{Ended}
use Rattle.lb_replay.specs.declared.ended.Ended.TheVariants.{Printed, WriteFailed}
use Rattle.lb_replay.specs.declared.fault.Fault.{Fault}
use Rattle.lb_replay.specs.declared.fault.Fault.TheVariants.{Dump, Plan, Flawed, NoDecision}
use Rattle.lb_replay.specs.declared.way.Way.{Way}
use Rattle.lb_replay.specs.declared.way.Way.TheVariants.{Least, Within, InOrder, InAnyOrder}

-- the number of blocks: the one asked for, or otherwise that of the dump
abbrev pub blocks_of : Option ℕ → Taken → ℕ
blocks_of procs s = unwrap_or procs s.procs

-- this is the text of a right decision on the snapshot, of the chosen division and the least naming
pub record IsPlanned (A : Type 0) (s : Taken) (blocks : ℕ) (text : List ℕ) : Type 0 where
  pub decision : Decision A
  pub chosen : IsChosen s.loads blocks decision.division
  pub least : IsLeastNaming s.sizes decision.division.cuts blocks decision.naming
  pub right : IsRight s.loads s.sizes blocks decision
  pub printed : text ≡ decision_text s blocks decision

-- this is the text of the decision on the snapshot within the tolerance
pub record IsWithin (A : Type 0) (s : Taken) (blocks tolerance : ℕ) (text : List ℕ) : Type 0 where
  pub decision : Refined A
  pub refined : IsRefined s.loads s.sizes blocks tolerance decision
  pub printed : text ≡ refined_text s blocks tolerance false decision

-- this is the text of the decision on the snapshot within the tolerance that keeps the order of the PEs
pub record IsInOrder (A : Type 0) (s : Taken) (blocks tolerance : ℕ) (text : List ℕ) : Type 0 where
  pub decision : Refined A
  pub refined : IsRefinedInOrder s.loads s.sizes blocks tolerance decision
  pub printed : text ≡ refined_text s blocks tolerance false decision

-- This is the text of a decision on the snapshot within the tolerance in any order of the PEs, which moves no more bytes than the
-- one where that is not asked for.
pub record IsInAnyOrder (A : Type 0) (s : Taken) (blocks tolerance : ℕ) (text : List ℕ) : Type 0 where
  pub decision : Refined A
  pub reordering : IsReordering s.loads s.sizes blocks tolerance decision
  pub no_more : (other : Refined A) → IsRefined s.loads s.sizes blocks tolerance other → refined_moved decision ≤ refined_moved other
  pub printed : text ≡ refined_text s blocks tolerance true decision

-- the text of the decision that is made in this way
abbrev pub IsDecided : (A : Type 0) → Taken → ℕ → Way → List ℕ → Type 0
IsDecided A s blocks Least text = IsPlanned A s blocks text
IsDecided A s blocks (Within tolerance) text = IsWithin A s blocks tolerance text
IsDecided A s blocks (InOrder tolerance) text = IsInOrder A s blocks tolerance text
IsDecided A s blocks (InAnyOrder tolerance) text = IsInAnyOrder A s blocks tolerance text

-- The snapshot determines what is printed. Only in any order of the PEs several decisions may move the fewest bytes.
abbrev pub HasOneText : Way → Type 0
HasOneText (InAnyOrder tolerance) = ⊥
HasOneText _ = Unit {0}

-- This is such a text for the snapshot of the dump that the bytes are a text of. A decision in the dump does not matter. Where
-- the reader does not report its bytes, it is so for some dump.
pub record IsReplay (A : Type 0) (bytes : Option (List ℕ)) (procs : Option ℕ) (way : Way) (text : List ℕ) : Type 0 where
  pub dump : Dumped A
  pub read : IfSome bytes (IsText dump)
  pub decided : IsDecided A dump.snapshot (blocks_of procs dump.snapshot) way text

-- nothing is wrong with what was read
abbrev pub ReadsGood : Option (List ℕ) → Option (List ℕ) → Type 0
ReadsGood bytes rest = (text : List ℕ) × Consumes bytes rest text × IsGood text

-- The fault of a dump that is reported: the first fault of the bytes, or a failure of the reader where nothing is wrong
-- with what was read, or out of memory.
abbrev pub IsReadFault : Option (List ℕ) → Option (List ℕ) → DumpError → Type 0
IsReadFault bytes rest e =
    IfSome bytes (λ text. (e ≡ Read) ⊎ ((e ≡ DumpError.OutOfMemory) ⊎ IsFault text e)) × (e ≡ Read → ReadsGood bytes rest)

-- the fault that a replay reports: one of the dump; and once the bytes were read, and are a dump, only out of memory
abbrev pub IsReplayFault : (A : Type 0) → Option (List ℕ) → Option (List ℕ) → Fault → Type 0
IsReplayFault A bytes rest (Dump e) = IsReadFault bytes rest e
IsReplayFault A bytes rest (Plan e) =
    (e ≡ PlanError.OutOfMemory) × IsAtEnd rest × ((d : Dumped A) × IfSome bytes (IsText d))
IsReplayFault A bytes rest _ = ⊥

-- the line of a fault was written, or a prefix of it
abbrev pub ReportsFault : Option (List ℕ) → Option (List ℕ) → Fault → Ended → Type 0
ReportsFault old new fault Printed = ⊥
ReportsFault old new fault (Ended.Dump e) = (fault ≡ Dump e) × Appends old new (fault_line fault)
ReportsFault old new fault (Ended.Plan e) = (fault ≡ Plan e) × Appends old new (fault_line fault)
ReportsFault old new fault (Ended.Flawed flaw) = (fault ≡ Flawed flaw) × Appends old new (fault_line fault)
ReportsFault old new fault Ended.NoDecision = (fault ≡ NoDecision) × Appends old new (fault_line fault)
ReportsFault old new fault WriteFailed = WritesPrefix old new (fault_line fault)

-- What the writer has after each end: the whole text, the line of the fault, or a prefix of one of these. The reader had
-- `bytes` before, and has `rest` after.
abbrev pub EndsReplay : (A : Type 0) → Option (List ℕ) → Option (List ℕ) → Option ℕ → Way → Option (List ℕ) → Option (List ℕ) → Ended → Type 0
EndsReplay A bytes rest procs way old new Printed = (text : List ℕ) × IsReplay A bytes procs way text × Appends old new text
EndsReplay A bytes rest procs way old new (Ended.Dump e) =
    IsReplayFault A bytes rest (Dump e) × Appends old new (fault_line (Dump e))
EndsReplay A bytes rest procs way old new (Ended.Plan e) =
    IsReplayFault A bytes rest (Plan e) × Appends old new (fault_line (Plan e))
EndsReplay A bytes rest procs way old new WriteFailed =
    (text : List ℕ) × (IsReplay A bytes procs way text ⊎ ((fault : Fault) × IsReplayFault A bytes rest fault × (text ≡ fault_line fault))) × WritesPrefix old new text
EndsReplay A bytes rest procs way old new _ = ⊥

-- the line for a dump that was not read was written, or in its place the one for out of memory, or a prefix of one
abbrev pub ReportsUnread : Option (List ℕ) → Option (List ℕ) → Ended → Type 0
ReportsUnread old new ended =
    ReportsFault old new (Dump Read) ended ⊎ ReportsFault old new (Dump DumpError.OutOfMemory) ended
