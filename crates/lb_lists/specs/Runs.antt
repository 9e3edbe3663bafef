-- A run as plain lists, and when it can be planned.
use Rattle.std.specs.Prelude.{◌≡◌, ℕ, ◌<◌, ◌≤◌, List, length, sum, All}
use Rattle.std.specs.List.{zip}
use Rattle.chare_index.specs.declared.limits.TheConstants.Limits as Snapshots
use Rattle.chain_partition.specs.declared.error.ChainError.{ChainError}
use Rattle.chain_partition.specs.declared.error.ChainError.TheVariants as Chains
use Rattle.lb_lists.specs.declared.limits.TheConstants.RunLimits.{ELEMENTS, PES, LOAD, BYTES}
use Rattle.lb_lists.specs.declared.error.RunError.{RunError}
use Rattle.lb_lists.specs.declared.error.RunError.TheVariants.{BadInput, BadLoad, OutOfMemory}
use Rattle.lb_lists.specs.declared.error.RefineError.{RefineError}
use Rattle.lb_lists.specs.declared.error.RefineError.TheVariants.{BadTolerance, TooLarge, Run}

-- for each element its load, its packed size in bytes and the PE that it is on; and the number of PEs
pub record Listed : Type 0 where
  pub loads : List ℕ
  pub bytes : List ℕ
  pub places : List ℕ
  pub procs : ℕ

-- the packed size of each element beside its PE
abbrev pub sizes_of : Listed → List (ℕ × ℕ)
sizes_of run = zip run.bytes run.places

-- The lists are of the same elements, of which there are not too many, the sizes do not add up to too much, and each element is
-- on one of the PEs. The loads may be of any size.
pub record IsRun (run : Listed) : Type 0 where
  pub some_pe : 0 < run.procs
  pub few_pes : run.procs ≤ PES
  pub few : length run.loads ≤ ELEMENTS
  pub sized : length run.bytes ≡ length run.loads
  pub stood : length run.places ≡ length run.loads
  pub small : sum run.bytes ≤ BYTES
  pub placed : All (λ place. place < run.procs) run.places

-- a run, and the number of PEs on which it is to continue
pub record IsAsked (run : Listed) (pes : ℕ) : Type 0 where
  pub is_run : IsRun run
  pub some_pe : 1 ≤ pes
  pub few_pes : pes ≤ PES

-- the loads do not add up to more than the limit
abbrev pub AreSmall : List ℕ → Type 0
AreSmall loads = sum loads ≤ LOAD

-- Why a call was refused: its input was not in order; or it was, and the loads add up to too much; or neither, and memory was
-- refused.
abbrev pub IsRefusal : Type 0 → Type 0 → RunError → Type 0
IsRefusal in_order small BadInput = ¬ in_order
IsRefusal in_order small BadLoad = in_order × ¬ small
IsRefusal in_order small OutOfMemory = in_order × small

-- why a call was refused whose loads are no chain
abbrev pub refusal_of : ChainError → RunError
refusal_of Chains.TooLong = BadInput
refusal_of Chains.TooHeavy = BadLoad
refusal_of Chains.OutOfMemory = OutOfMemory

-- Within the limits of a snapshot, for which alone there is a decision within a tolerance: of elements and PEs, and of the
-- load and the size of one element.
pub record FitsSnapshot (run : Listed) (pes : ℕ) : Type 0 where
  pub few : length run.loads ≤ Snapshots.ELEMENTS
  pub few_procs : run.procs ≤ Snapshots.PES
  pub few_pes : pes ≤ Snapshots.PES
  pub light : All (λ units. units ≤ Snapshots.LOAD) run.loads
  pub small : All (λ size. size ≤ Snapshots.STATE_BYTES) run.bytes

-- Why no snapshot was made of a run: one of these reasons; or, before memory was asked for, that it is past a snapshot's
-- limits.
abbrev pub IsSnapshotRefusal : Type 0 → Type 0 → Type 0 → RefineError → Type 0
IsSnapshotRefusal in_order small fits BadTolerance = ⊥
IsSnapshotRefusal in_order small fits (Run BadInput) = ¬ in_order
IsSnapshotRefusal in_order small fits (Run BadLoad) = in_order × ¬ small
IsSnapshotRefusal in_order small fits TooLarge = in_order × small × ¬ fits
IsSnapshotRefusal in_order small fits (Run OutOfMemory) = in_order × small × fits

-- Why nothing was decided within a tolerance, in thousandths: it is too great; or it is not, and this is why there is no
-- snapshot of the run, or memory was refused later.
abbrev pub IsRefineRefusal : ℕ → Type 0 → Type 0 → Type 0 → RefineError → Type 0
IsRefineRefusal thousandths in_order small fits BadTolerance = 1000 < thousandths
IsRefineRefusal thousandths in_order small fits error =
    (thousandths ≤ 1000) × IsSnapshotRefusal in_order small fits error
