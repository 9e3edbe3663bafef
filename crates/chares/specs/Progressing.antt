-- How far an element has come, and how each entry of its journal changes that.
use Rattle.std.specs.Prelude.{ℕ, ◌+◌, min, List, [], ◌∷◌, Option, None, Some, Bool, true, false, not, ◌&&◌, if◌then◌else◌}
use Rattle.chare_index.specs.declared.limits.TheConstants.Limits.{LOAD}
use Rattle.chares.specs.declared.chare.Effect.{Effect}
use Rattle.chares.specs.declared.entry.Entry.{Entry}
use Rattle.chares.specs.declared.entry.Entry.TheVariants.{Letter, Resumption}
use Rattle.chares.specs.declared.note.Mark.{Mark}
use Rattle.chares.specs.declared.note.Mark.TheVariants.{Synced, Resumed}
use Rattle.chares.specs.declared.note.Note.{Note}
use Rattle.chares.specs.declared.note.Note.TheVariants.{Sync, Finish}
use Rattle.chares.specs.declared.progress.Ending.{Ending}
use Rattle.chares.specs.declared.progress.Ending.TheVariants.{Runs, Syncs, Finishes}
use Rattle.chares.specs.declared.progress.Progress.{Progress}

-- a resumption ends the wait for its round
abbrev pub begun : Progress → ℕ → Progress
begun p round = record { round = round; started = true; synced = false; finished = p.finished; load = p.load }

-- a letter does not
abbrev pub entered : {L : Type 0} → Progress → Entry L → Progress
entered p (Letter l) = p
entered p (Resumption round) = begun p round

-- with the units of one more handler, up to the limit of a load
abbrev pub charged : Progress → ℕ → Progress
charged p units = record { round = p.round; started = p.started; synced = p.synced; finished = p.finished; load = min (p.load + units) LOAD }

-- what the effect of a handler means: an element finishes once, and waits once for each round, unless it has finished
abbrev pub ending : Progress → Effect → Ending
ending p e =
    if e.finished
    then (if p.finished then Runs else Finishes)
    else (if e.at_sync && not p.synced && not p.finished then Syncs else Runs)

-- an element that begins to wait counts its load anew
abbrev pub ended : Progress → Ending → Progress
ended p Runs = p
ended p Syncs = record { round = p.round; started = p.started; synced = true; finished = p.finished; load = 0 }
ended p Finishes = record { round = p.round; started = p.started; synced = p.synced; finished = true; load = p.load }

-- the note that is owed for an element with a state of this length on a PE
abbrev pub note_at : Progress → ℕ → ℕ → ℕ → Ending → Option Note
note_at p index bytes pe Runs = None
note_at p index bytes pe Syncs = Some (Sync index (p.round + 1) p.load bytes pe)
note_at p index bytes pe Finishes = Some (Finish index)

-- the mark of a resumption on a PE
abbrev pub resumed_mark : {L : Type 0} → ℕ → Entry L → List Mark
resumed_mark pe (Letter l) = []
resumed_mark pe (Resumption round) = Resumed round pe ∷ []

-- whether a note says that an element has finished
abbrev pub is_finish : Note → Bool
is_finish (Sync index round units bytes pe) = false
is_finish (Finish index) = true

-- the mark of a note that says that an element waits
abbrev pub synced_mark : Option Note → List Mark
synced_mark None = []
synced_mark (Some note) = if is_finish note then [] else Synced note ∷ []
