-- The runs of a workload by many seeds, and what is written of them.
use Rattle.std.specs.Prelude.{◌≡◌, ◌⊎◌, ℕ, ◌+◌, List, [], ◌∷◌, ◌++◌, codes, length, map, Option, None, Some, Result}
use Rattle.std.specs.Fmt.{decimal}
use Rattle.sync_board.specs.declared.strategy.Strategy.{Strategy}
use Rattle.pe_worker.specs.declared.fault.Fault.{Fault}
use Rattle.chares.specs.Elements.{Refuses}
use Rattle.chares.specs.Steps.{Step}
use Rattle.pup_pack.specs.declared.error.PupError.{PupError}
use Rattle.rts_core.specs.Accounts.{held_count}
use Rattle.rts_core.specs.Worlds.{opening_world}
use Rattle.rts_run.specs.Outcomes.{first_fault}
use Rattle.run_text.specs.Text.{fault_word}
use Rattle.schedules.specs.Courses.{ExploredView, IsExplored, left_by}
use Rattle.schedules.specs.Drawn.{IsDrawn}
use Rattle.schedules.specs.Endings.{EndsRun}
use Rattle.schedules.specs.declared.schedule.Schedule.{Schedule}
use Rattle.tally.specs.Tallies.{TallyRefuses, TallyView, tally_pack, tally_step}
use Rattle.workload.specs.Text.{WorkloadView}
use Rattle.schedule_run.specs.OneThread.{Unpack, unlimited}
use Rattle.schedule_run.specs.declared.verdict.Verdict.{Verdict}
use Rattle.workload_run.specs.Lines.{memory_line, newline}
use Rattle.workload_run.specs.Tallies.{tallies_of}
use Rattle.workload_run.specs.Telling.{TellsOutcome, WritesText}
use Rattle.workload_run.specs.declared.ended.RunEnd.{RunEnd}
use Rattle.workload_run.specs.declared.ended.RunEnd.TheVariants.{OutOfMemory}

module _ {C : Type 0} (A : Type 0) (step : Step C) (fits : C → Type 0) (pack : C → List ℕ) (refuses : Refuses C)
    (unpack : List ℕ → Result (C × ℕ) PupError) (chares : List C) (schedule : Schedule) where
  -- how the run of these chares by this seed ended, whose steps are those that the seed draws: its fault, which is why the run ended,
  -- and how many letters it left
  abbrev pub IsVerdict : ℕ → Verdict → Type 0
  IsVerdict seed v =
      (x : ExploredView C A) × IsExplored step fits pack unpack chares schedule.pes schedule.strategy x
      × IsDrawn step pack unpack schedule.bias seed (opening_world schedule.pes chares schedule.strategy) x
      × EndsRun step pack refuses unpack schedule.steps x × (v.fault ≡ x.outcome.fault) × (v.held ≡ held_count (left_by x))

  -- so by this seed and those after it, one verdict for each
  abbrev pub AreVerdicts : ℕ → List Verdict → Type 0
  AreVerdicts seed [] = Unit {0}
  AreVerdicts seed (v ∷ vs) = IsVerdict seed v × AreVerdicts (seed + 1) vs

-- the line of a run by this seed that a fault ended, with this number of letters left; a run without a fault has none
abbrev pub fault_line : ℕ → ℕ → Option Fault → List ℕ
fault_line seed held None = []
fault_line seed held (Some fault) =
    codes "seed " ++ decimal seed ++ codes " fault " ++ fault_word fault ++ codes " held " ++ decimal held ++ newline

-- the lines of runs by this seed and those after it
abbrev pub fault_lines : ℕ → List Verdict → List ℕ
fault_lines seed [] = []
fault_lines seed (v ∷ vs) = fault_line seed v.held v.fault ++ fault_lines (seed + 1) vs

-- whether a fault ended a run, as a number, and how many runs a fault ended
abbrev pub fault_count : Option Fault → ℕ
fault_count None = 0
fault_count (Some fault) = 1

abbrev pub faults_among : List Verdict → ℕ
faults_among [] = 0
faults_among (v ∷ vs) = fault_count v.fault + faults_among vs

-- seeds N faults F
abbrev pub count_line : ℕ → ℕ → List ℕ
count_line seeds faults = codes "seeds " ++ decimal seeds ++ codes " faults " ++ decimal faults ++ newline

-- the whole text of runs by the seeds from 1 on
abbrev pub seeds_text : List Verdict → List ℕ
seeds_text verdicts = fault_lines 1 verdicts ++ count_line (length verdicts) (faults_among verdicts)

-- the first fault that ended a run
abbrev pub fault_of_first : List Verdict → Option Fault
fault_of_first verdicts = first_fault (map (λ v. v.fault) verdicts)

-- These chares were run by each of the seeds from 1 to this number, and the text of that was written, or a prefix of it; or memory
-- was refused, and the line for that was written, or a prefix of it.
abbrev pub TellsSeeds : {C : Type 0} (A : Type 0) → Step C → (C → Type 0) → (C → List ℕ) → Refuses C → (List ℕ → Result (C × ℕ) PupError) → List C
    → Schedule → ℕ → Option (List ℕ) → Option (List ℕ) → RunEnd → Type 0
TellsSeeds A step fits pack refuses unpack chares schedule seeds old new ended =
    ((verdicts : List Verdict) × AreVerdicts A step fits pack refuses unpack chares schedule 1 verdicts × (length verdicts ≡ seeds)
    × TellsOutcome (seeds_text verdicts) old new (fault_of_first verdicts) ended)
    ⊎ WritesText memory_line OutOfMemory old new ended

-- so for the tallies of a workload, without a bias, and with no number of events that stops a run
abbrev pub TriesSeeds : (A : Type 0) → (TallyView → Type 0) → Unpack → WorkloadView → Strategy → ℕ → Option (List ℕ) → Option (List ℕ) → RunEnd → Type 0
TriesSeeds A fits unpack w strategy seeds old new ended =
    TellsSeeds A tally_step fits tally_pack TallyRefuses unpack (tallies_of w) (unlimited w.pes strategy) seeds old new ended
