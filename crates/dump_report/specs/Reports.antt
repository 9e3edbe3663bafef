-- How a report on a dump ends, and what its writer has then.
use Rattle.std.specs.Prelude.{◌≡◌, ◌⊎◌, ℕ, ◌≤◌, IsTrue, IsFalse, ◌==◌, if◌then◌else◌, length, List, [], ◌∷◌, ◌++◌, Option, Some, None, IfSome}
use Rattle.std.specs.Io.KnownBytes.{Appends, IsAtEnd}
use Rattle.chain_partition.specs.Chosen.{IsChosen}
use Rattle.chare_index.specs.declared.limits.TheConstants.Limits.{PES}
use Rattle.dump_format.specs.Dumps.{Dumped}
use Rattle.dump_format.specs.Text.{IsText}
use Rattle.dump_format.specs.declared.recorded.Recorded.{Recorded}
use Rattle.lb_certificates.specs.Naming.{IsLeastNaming}
use Rattle.lb_refinement.specs.Refined.{IsRefined}
use Rattle.lb_refinement.specs.declared.refined.Refined.{Refined}
use Rattle.lb_replay.specs.Simulation.{IsReadFault}
use Rattle.lb_replay.specs.declared.ended.Ended.{Ended}
use Rattle.lb_replay.specs.declared.ended.Ended.TheVariants.{Printed, WriteFailed}
use Rattle.lb_snapshot.specs.Measured.{Taken}
use Rattle.lb_strategy.specs.Decisions.{IsRight}
use Rattle.lb_strategy.specs.declared.decision.Decision.{Decision}
use Rattle.lb_strategy.specs.declared.error.PlanError.{PlanError}
use Rattle.load_report.specs.Text.{IsRecordedText, planned_text, present_text, refined_text}
use Rattle.load_report.specs.declared.style.Style.{Style}
use Rattle.streams.specs.Writing.{WritesPrefix}

-- a number of PEs within the limits
abbrev pub IsNumber : ℕ → Type 0
IsNumber p = (1 ≤ p) × (p ≤ PES)

-- the numbers of PEs that decisions are made for: those that are asked for, or otherwise that of the dump
abbrev pub numbers_of : List ℕ → ℕ → List ℕ
numbers_of procs own = if length procs == 0 then own ∷ [] else procs

-- this is what is reported of a right decision on the snapshot, of the chosen division and the least naming
pub record IsPlan (A : Type 0) (style : Style) (name : List ℕ) (s : Taken) (pes : ℕ) (text : List ℕ) : Type 0 where
  pub decision : Decision A
  pub chosen : IsChosen s.loads pes decision.division
  pub least : IsLeastNaming s.sizes decision.division.cuts pes decision.naming
  pub right : IsRight s.loads s.sizes pes decision
  pub printed : text ≡ planned_text style name s pes decision

-- this is what is reported of the decision on the snapshot within the tolerance
pub record IsWithin (A : Type 0) (style : Style) (name : List ℕ) (s : Taken) (pes tolerance : ℕ) (text : List ℕ) : Type 0 where
  pub decision : Refined A
  pub refined : IsRefined s.loads s.sizes pes tolerance decision
  pub printed : text ≡ refined_text style name s pes decision

-- what is reported of the plan beside a decision within a tolerance: nothing where moves are listed
abbrev pub IsBeside : (A : Type 0) → Style → List ℕ → Taken → ℕ → List ℕ → Type 0
IsBeside A style name s pes text =
    (IsTrue style.moves × (text ≡ [])) ⊎ (IsFalse style.moves × IsPlan A style name s pes text)

-- what is reported for a number of PEs: the plan; and, where there is a tolerance, the decision within it
abbrev pub IsDecided : (A : Type 0) → Style → List ℕ → Taken → Option ℕ → ℕ → List ℕ → Type 0
IsDecided A style name s None pes text = IsPlan A style name s pes text
IsDecided A style name s (Some tolerance) pes text =
    (plan : List ℕ) × (within : List ℕ) × IsBeside A style name s pes plan × IsWithin A style name s pes tolerance within × (text ≡ plan ++ within)

-- what is reported for these numbers of PEs, one after another
abbrev pub ArePlans : (A : Type 0) → Style → List ℕ → Taken → Option ℕ → List ℕ → List ℕ → Type 0
ArePlans A style name s tolerance [] text = text ≡ []
ArePlans A style name s tolerance (p ∷ procs) text =
    (first : List ℕ) × (rest : List ℕ) × IsDecided A style name s tolerance p first × ArePlans A style name s tolerance procs rest × (text ≡ first ++ rest)

-- this is what is reported of the decision that a dump records, if it records one
abbrev pub IsPast : {A : Type 0} → Style → List ℕ → Taken → Option (Recorded A) → List ℕ → Type 0
IsPast style name s None text = text ≡ []
IsPast style name s (Some r) text = IsRecordedText style name s r.target r.decision text

-- This is what is reported of a dump: its present placement, the decision that it records, if there is one, and then a decision
-- for each number of PEs, or two where there is a tolerance.
pub record IsSaid {A : Type 0} (style : Style) (name : List ℕ) (procs : List ℕ) (tolerance : Option ℕ) (d : Dumped A) (text : List ℕ) : Type 0 where
  pub past : List ℕ
  pub recorded : IsPast style name d.snapshot d.recorded past
  pub plans : List ℕ
  pub planned : ArePlans A style name d.snapshot tolerance (numbers_of procs d.snapshot.procs) plans
  pub printed : text ≡ present_text style name d.snapshot ++ (past ++ plans)

-- This is the report on the dump that the bytes are a text of; on some dump, where the reader does not report its bytes.
pub record IsReport (A : Type 0) (bytes : Option (List ℕ)) (style : Style) (name : List ℕ) (procs : List ℕ) (tolerance : Option ℕ) (text : List ℕ) : Type 0 where
  pub dump : Dumped A
  pub read : IfSome bytes (IsText dump)
  pub said : IsSaid style name procs tolerance dump text

-- the fault in place of a report: one of the dump; and once the bytes were read, and are a dump, only out of memory
abbrev pub IsFoundFault : (A : Type 0) → Option (List ℕ) → Option (List ℕ) → Ended → Type 0
IsFoundFault A bytes rest (Ended.Dump e) = IsReadFault bytes rest e
IsFoundFault A bytes rest (Ended.Plan e) =
    (e ≡ PlanError.OutOfMemory) × IsAtEnd rest × ((d : Dumped A) × IfSome bytes (IsText d))
IsFoundFault A bytes rest _ = ⊥

-- What the writer has after each end: the whole report, or nothing of it where there is a fault, or a prefix where the writer
-- failed. The reader had `bytes` before, and has `rest` after.
abbrev pub EndsReport : (A : Type 0) → Option (List ℕ) → Option (List ℕ) → Style → List ℕ → List ℕ → Option ℕ → Option (List ℕ) → Option (List ℕ) → Ended → Type 0
EndsReport A bytes rest style name procs tolerance old new Printed =
    (text : List ℕ) × IsReport A bytes style name procs tolerance text × Appends old new text
EndsReport A bytes rest style name procs tolerance old new (Ended.Dump e) =
    IsFoundFault A bytes rest (Ended.Dump e) × (new ≡ old)
EndsReport A bytes rest style name procs tolerance old new (Ended.Plan e) =
    IsFoundFault A bytes rest (Ended.Plan e) × (new ≡ old)
EndsReport A bytes rest style name procs tolerance old new WriteFailed =
    (text : List ℕ) × IsReport A bytes style name procs tolerance text × WritesPrefix old new text
EndsReport A bytes rest style name procs tolerance old new _ = ⊥
