-- The order of the rounds of an element: its start is its resumption for round 0, and from then on it reaches AtSync for
-- the next round and is resumed for that, in turn. Source: the Charm++ manual on load balancing, where an element calls
-- AtSync and goes on in ResumeFromSync; that each of its handlers may call it is this project's choice.
use Rattle.std.specs.Prelude.{◌≡◌, ℕ, zero, suc, ◌+◌, List, [], ◌∷◌, ◌++◌, map, true, false, if◌then◌else◌, ◌⊎◌, IfSome, slice_get}
use Rattle.std.specs.List.{flat_map, range_with_len}
use Rattle.chares.specs.declared.entry.Entry.TheVariants.{Letter, Resumption}
use Rattle.chares.specs.declared.note.Mark.{Mark}
use Rattle.chares.specs.declared.note.Mark.TheVariants.{Synced, Resumed}
use Rattle.chares.specs.declared.note.Note.{Note}
use Rattle.chares.specs.declared.note.Note.TheVariants.{Sync, Finish}
use Rattle.chares.specs.declared.progress.Progress.{Progress}
use Rattle.chares.specs.Letters.{Done}

-- a stop of an element: it reaches AtSync for a round, or is resumed for one
pub data Stop : Type 0 where
  AtSync : ℕ → Stop
  Resumes : ℕ → Stop

-- the stop that a mark is of; a mark of a note is of one for a round, never of one that the element has finished
abbrev pub round_of : Note → ℕ
round_of (Sync e round units bytes pe) = round
round_of (Finish e) = 0

abbrev pub stop_of : Mark → Stop
stop_of (Synced note) = AtSync (round_of note)
stop_of (Resumed round pe) = Resumes round

-- the stops of an element that was resumed last for this round
abbrev pub stops_until : ℕ → List Stop
stops_until zero = Resumes 0 ∷ []
stops_until (suc round) = stops_until round ++ AtSync (suc round) ∷ Resumes (suc round) ∷ []

-- the stops of an element with this progress
abbrev pub stops_by : Progress → List Stop
stops_by p = if p.started then stops_until p.round ++ (if p.synced then AtSync (p.round + 1) ∷ [] else []) else []

-- the rounds for which a journal has resumptions
abbrev pub resumption_of : Done → List ℕ
resumption_of (Letter l) = []
resumption_of (Resumption round) = round ∷ []

abbrev pub resumptions : List Done → List ℕ
resumptions journal = flat_map resumption_of journal

-- whether an entry is the start of an element
abbrev pub IsStart : Done → Type 0
IsStart (Letter l) = ⊥
IsStart (Resumption round) = round ≡ 0

-- The rounds of an element with this journal, this progress and these marks come in order: the first entry that it has is its
-- start; before it has started it is in round 0 and does not wait; its marks are its stops, and its resumptions are those for
-- the rounds so far.
pub record IsInOrder (journal : List Done) (p : Progress) (marks : List Mark) : Type 0 where
  pub first : IfSome (slice_get journal 0) IsStart
  pub fresh : p.started ≡ false → (p.round ≡ 0) × (p.synced ≡ false)
  pub stops : map stop_of marks ≡ stops_by p
  pub resumed : resumptions journal ≡ (if p.started then range_with_len 0 (p.round + 1) else [])

-- what an element with this progress may handle next: a letter once it has started; its start, if it has not; and the
-- resumption for the next round, if it waits for that
abbrev pub MayHandle : Progress → Done → Type 0
MayHandle p (Letter l) = p.started ≡ true
MayHandle p (Resumption round) = ((p.started ≡ false) × (round ≡ 0)) ⊎ ((p.synced ≡ true) × (round ≡ p.round + 1))
