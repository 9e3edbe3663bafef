-- Why a run is refused.
use Rattle.std.specs.Prelude.{◌≡◌, ◌≢◌, Bool, true, ℕ, ◌+◌, ◌-◌, ◌<◌, ◌≤◌, List, All, length, slice_index, sum, take}
use Rattle.chare_index.specs.declared.limits.TheConstants.Limits as Snapshots
use Rattle.lb_lists.specs.declared.limits.TheConstants.RunLimits.{ELEMENTS, PES, LOAD, BYTES}
use Rattle.lb_lists.specs.Runs.{Listed, AreSmall, FitsSnapshot, IsAsked}
use Rattle.run_refusals.specs.declared.refusal.RunRefusal.{RunRefusal}
use Rattle.run_refusals.specs.declared.refusal.RunRefusal.TheVariants.{NoPes, ManyPes, NoProcs, ManyProcs, ManyElements, BytesCount, PlacesCount, ManyBytes, Astray, ManyUnits, ElementsWithin, ProcsWithin, PesWithin, LoadWithin, BytesWithin}

-- the first of these numbers that is above a limit
pub record IsFirstAbove (numbers : List ℕ) (limit i : ℕ) : Type 0 where
  pub inside : i < length numbers
  pub above : limit < slice_index numbers i
  pub before : (j : ℕ) → j < i → slice_index numbers j ≤ limit

-- the first of these numbers with which they add up to more than a limit
pub record PassesAt (numbers : List ℕ) (limit i : ℕ) : Type 0 where
  pub inside : i < length numbers
  pub before : sum (take i numbers) ≤ limit
  pub behind : limit < sum (take (i + 1) numbers)

-- the run has 1 to 4,096 PEs, and is to continue on as many
pub record ArePes (run : Listed) (pes : ℕ) : Type 0 where
  pub some_pe : 1 ≤ pes
  pub few_pes : pes ≤ PES
  pub some_proc : 0 < run.procs
  pub few_procs : run.procs ≤ PES

-- and there are not too many elements, each with a load, a packed size and a place
pub record AreCounted (run : Listed) (pes : ℕ) : Type 0 where
  pub are_pes : ArePes run pes
  pub few : length run.loads ≤ ELEMENTS
  pub sized : length run.bytes ≡ length run.loads
  pub stood : length run.places ≡ length run.loads

-- the run can be planned; and where a tolerance is asked for, it is within the limits of one
pub record IsPlannable (run : Listed) (pes : ℕ) (within : Bool) : Type 0 where
  pub asked : IsAsked run pes
  pub small : AreSmall run.loads
  pub fits : within ≡ true → FitsSnapshot run pes

-- a tolerance is asked for a run that can be planned
pub record IsWithin (run : Listed) (pes : ℕ) (within : Bool) : Type 0 where
  pub asked : IsAsked run pes
  pub small : AreSmall run.loads
  pub within_is : within ≡ true

-- and there are not too many elements and PEs for it
pub record AreFewWithin (run : Listed) (pes : ℕ) (within : Bool) : Type 0 where
  pub is_within : IsWithin run pes within
  pub few : length run.loads ≤ Snapshots.ELEMENTS
  pub few_procs : run.procs ≤ Snapshots.PES
  pub few_pes : pes ≤ Snapshots.PES

-- Why a run is refused: this is so, and nothing that is looked at before is wrong.
abbrev pub IsRefusedFor : Listed → ℕ → Bool → RunRefusal → Type 0
IsRefusedFor run pes within NoPes = pes ≡ 0
IsRefusedFor run pes within ManyPes = PES < pes
IsRefusedFor run pes within NoProcs = (1 ≤ pes) × (pes ≤ PES) × (run.procs ≡ 0)
IsRefusedFor run pes within ManyProcs = (1 ≤ pes) × (pes ≤ PES) × (PES < run.procs)
IsRefusedFor run pes within ManyElements = ArePes run pes × (ELEMENTS < length run.loads)
IsRefusedFor run pes within BytesCount = ArePes run pes × (length run.loads ≤ ELEMENTS) × (length run.bytes ≢ length run.loads)
IsRefusedFor run pes within PlacesCount =
    ArePes run pes × (length run.loads ≤ ELEMENTS) × (length run.bytes ≡ length run.loads) × (length run.places ≢ length run.loads)
IsRefusedFor run pes within (ManyBytes i) = AreCounted run pes × PassesAt run.bytes BYTES i
IsRefusedFor run pes within (Astray i) = AreCounted run pes × (sum run.bytes ≤ BYTES) × IsFirstAbove run.places (run.procs - 1) i
IsRefusedFor run pes within (ManyUnits i) = IsAsked run pes × PassesAt run.loads LOAD i
IsRefusedFor run pes within ElementsWithin = IsWithin run pes within × (Snapshots.ELEMENTS < length run.loads)
IsRefusedFor run pes within ProcsWithin = IsWithin run pes within × (length run.loads ≤ Snapshots.ELEMENTS) × (Snapshots.PES < run.procs)
IsRefusedFor run pes within PesWithin =
    IsWithin run pes within × (length run.loads ≤ Snapshots.ELEMENTS) × (run.procs ≤ Snapshots.PES) × (Snapshots.PES < pes)
IsRefusedFor run pes within (LoadWithin i) = AreFewWithin run pes within × IsFirstAbove run.loads Snapshots.LOAD i
IsRefusedFor run pes within (BytesWithin i) =
    AreFewWithin run pes within × All (λ units. units ≤ Snapshots.LOAD) run.loads × IsFirstAbove run.bytes Snapshots.STATE_BYTES i

-- the number of a reason, in the order in which they are looked for, and the entry that it names
abbrev pub refusal_number : RunRefusal → ℕ
refusal_number NoPes = 1
refusal_number ManyPes = 2
refusal_number NoProcs = 3
refusal_number ManyProcs = 4
refusal_number ManyElements = 5
refusal_number BytesCount = 6
refusal_number PlacesCount = 7
refusal_number (ManyBytes i) = 8
refusal_number (Astray i) = 9
refusal_number (ManyUnits i) = 10
refusal_number ElementsWithin = 11
refusal_number ProcsWithin = 12
refusal_number PesWithin = 13
refusal_number (LoadWithin i) = 14
refusal_number (BytesWithin i) = 15

abbrev pub refusal_entry : RunRefusal → ℕ
refusal_entry (ManyBytes i) = i
refusal_entry (Astray i) = i
refusal_entry (ManyUnits i) = i
refusal_entry (LoadWithin i) = i
refusal_entry (BytesWithin i) = i
refusal_entry _ = 0
