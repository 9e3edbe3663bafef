-- Which fault of bytes that are no checkpoint is reported: that of the first faulty line, and then what the workload says of
-- the rounds and the places.
use Rattle.std.specs.Prelude.{◌≡◌, ℕ, ◌+◌, ◌^◌, ◌<◌, ◌≤◌, ◌⊎◌, min, List, ◌++◌, length, All}
use Rattle.chare_index.specs.declared.limits.TheConstants.Limits.{ELEMENTS, PES}
use Rattle.tally.specs.declared.tally_limits.TheConstants.TallyLimits.{AMOUNTS}
use Rattle.run_checkpoint.specs.declared.checkpoint.DecidedRound.{DecidedRound}
use Rattle.run_checkpoint.specs.declared.error.CheckpointError.{CheckpointError}
use Rattle.run_checkpoint.specs.declared.error.CheckpointError.TheVariants.{Form, Limit, Long, Read, OutOfMemory}
use Rattle.run_checkpoint.specs.declared.form.TheConstants.{DIGITS, TEXT_BYTES}
use Rattle.run_checkpoint.specs.Text.{IsDecided, decided_line, head_line, places_line, round_lines}
use Rattle.workload.specs.declared.error.WorkError.{WorkError}
use Rattle.workload.specs.Faults.{IsFault as IsWorkloadFault}
use Rattle.workload.specs.Text.{IsText, WorkloadView}

-- these bytes begin with a good part, and this holds of it and of what follows
pub record IsBehind {X : Type 0} (Good : X → Type 0) (text : X → List ℕ) (Next : X → List ℕ → Type 0) (bytes : List ℕ) : Type 0 where
  pub value : X
  pub rest : List ℕ
  pub good : Good value
  pub spelled : bytes ≡ text value ++ rest
  pub next : Next value rest

-- these bytes begin with no line of this form
abbrev pub IsMalformed : {X : Type 0} → (X → Type 0) → (X → List ℕ) → List ℕ → Type 0
IsMalformed {X} Formed text bytes = (x : X) (tail : List ℕ) → Formed x → bytes ≡ text x ++ tail → ⊥

-- what is wrong with the line of this number: it is not of its form, or it is and has a number past a limit
abbrev pub IsBadLine : {X : Type 0} → (X → Type 0) → (X → Type 0) → (X → List ℕ) → ℕ → List ℕ → CheckpointError → Type 0
IsBadLine {X} Formed Good text number bytes (Form n) = (n ≡ number) × IsMalformed Formed text bytes
IsBadLine {X} Formed Good text number bytes (Limit n) = (n ≡ number) × IsBehind Formed text (λ x _. Good x → ⊥) bytes
IsBadLine {X} Formed Good text number bytes e = ⊥

-- a number that has the form of one
abbrev pub IsShort : ℕ → Type 0
IsShort n = n < 10 ^ DIGITS

-- the limit of the rounds in the first line
abbrev pub IsHead : ℕ → Type 0
IsHead rounds = rounds ≤ AMOUNTS

-- numbers of a round that have the form of one
pub record IsRoundForm (d : DecidedRound) : Type 0 where
  pub bottleneck : IsShort d.bottleneck
  pub moved : IsShort d.moved

-- this many rounds, each within its limits
pub record AreRounds (count : ℕ) (decided : List DecidedRound) : Type 0 where
  pub counted : length decided ≡ count
  pub all : All IsDecided decided

-- the limits of places, whatever the workload is
pub record ArePlaces (places : List ℕ) : Type 0 where
  pub few : length places ≤ ELEMENTS
  pub all : All (λ p. p < PES) places

-- what the workload says of the rounds: it has no fewer
abbrev pub AreItsRounds : List DecidedRound → WorkloadView → Type 0
AreItsRounds decided w = length decided ≤ w.rounds

-- and of the places: for each chare it is one of its PEs
pub record AreItsPlaces (places : List ℕ) (w : WorkloadView) : Type 0 where
  pub each_chare : length places ≡ w.chares
  pub placed : All (λ p. p < w.pes) places

-- the rounds are not its own, which is told of the first line; or they are, and the places are not, which is told of their line
abbrev pub IsApart : List DecidedRound → List ℕ → WorkloadView → CheckpointError → Type 0
IsApart decided places w (Limit n) =
    ((n ≡ 1) × (AreItsRounds decided w → ⊥))
    ⊎ ((n ≡ length decided + 2) × AreItsRounds decided w × (AreItsPlaces places w → ⊥))
IsApart decided places w e = ⊥

-- a fault of a workload, of a line with this many lines more before it
abbrev pub shifted : WorkError → ℕ → CheckpointError
shifted (WorkError.Form n) before = Form (min 4294967295 (n + before))
shifted (WorkError.Limit n) before = Limit (min 4294967295 (n + before))
shifted WorkError.Long before = Long
shifted WorkError.Read before = Read
shifted WorkError.OutOfMemory before = OutOfMemory

-- the text of the workload, before which there are this many lines, has a fault
pub record IsBadWorkload (before : ℕ) (bytes : List ℕ) (e : CheckpointError) : Type 0 where
  pub fault : WorkError
  pub has : IsWorkloadFault bytes fault
  pub told : e ≡ shifted fault before

-- these bytes are the text of a workload that has other rounds or places
pub record IsOtherWorkload (decided : List DecidedRound) (places bytes : List ℕ) (e : CheckpointError) : Type 0 where
  pub workload : WorkloadView
  pub text : IsText workload bytes
  pub apart : IsApart decided places workload e

-- the fault of what follows the places
abbrev pub IsWorkFault : List DecidedRound → List ℕ → List ℕ → CheckpointError → Type 0
IsWorkFault decided places bytes e = IsBadWorkload (length decided + 2) bytes e ⊎ IsOtherWorkload decided places bytes e

-- the line of the places is faulty
abbrev pub AreBadPlaces : ℕ → List ℕ → CheckpointError → Type 0
AreBadPlaces number bytes e = IsBadLine (All IsShort) ArePlaces places_line number bytes e

-- the fault of what follows the rounds
abbrev pub IsPlacesFault : List DecidedRound → List ℕ → CheckpointError → Type 0
IsPlacesFault decided bytes e =
    AreBadPlaces (length decided + 2) bytes e
    ⊎ IsBehind ArePlaces places_line (λ places rest. IsWorkFault decided places rest e) bytes

-- the line of this round is faulty
abbrev pub IsBadRound : ℕ → List ℕ → CheckpointError → Type 0
IsBadRound r bytes e = IsBadLine IsRoundForm IsDecided (decided_line r) (r + 1) bytes e

-- fewer than this many rounds, each within its limits
pub record AreFewRounds (count : ℕ) (decided : List DecidedRound) : Type 0 where
  pub few : length decided < count
  pub all : All IsDecided decided

-- of this many lines of rounds the first faulty one has this fault
abbrev pub AreBadRounds : ℕ → List ℕ → CheckpointError → Type 0
AreBadRounds count bytes e =
    IsBehind (AreFewRounds count) (round_lines 1) (λ decided rest. IsBadRound (length decided + 1) rest e) bytes

-- the fault of what follows the first line, which says this many rounds
abbrev pub IsBodyFault : ℕ → List ℕ → CheckpointError → Type 0
IsBodyFault rounds bytes e =
    AreBadRounds rounds bytes e
    ⊎ IsBehind (AreRounds rounds) (round_lines 1) (λ decided rest. IsPlacesFault decided rest e) bytes

-- the first line is faulty
abbrev pub IsBadHead : List ℕ → CheckpointError → Type 0
IsBadHead bytes e = IsBadLine IsShort IsHead head_line 1 bytes e

-- the first fault, line by line
abbrev pub IsLineFault : List ℕ → CheckpointError → Type 0
IsLineFault bytes e =
    IsBadHead bytes e
    ⊎ IsBehind IsHead head_line (λ rounds rest. IsBodyFault rounds rest e) bytes

-- the fault of bytes that are no text of a checkpoint
abbrev pub IsFault : List ℕ → CheckpointError → Type 0
IsFault bytes e = ((e ≡ Long) × (TEXT_BYTES < length bytes)) ⊎ ((length bytes ≤ TEXT_BYTES) × IsLineFault bytes e)

-- the number of a kind of fault
abbrev pub error_number : CheckpointError → ℕ
error_number (Form n) = 1
error_number (Limit n) = 2
error_number Long = 3
error_number Read = 4
error_number OutOfMemory = 5
