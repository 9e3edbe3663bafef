-- Stale runs: free runs in which a rank may look at location words that are old. Each rank has its own copy of them, and what another
-- rank has changed it learns late or never. So before any event the words are those that the rank which makes it has in its copy, and
-- here these may be any words at all.
use Rattle.std.specs.Prelude.{◌≡◌, ℕ, ◌≤◌, List, [], ◌∷◌, ◌++◌, Result}
use Rattle.sync_board.specs.declared.strategy.Strategy.{Strategy}
use Rattle.chares.specs.declared.trace_entry.TraceEntry.{TraceEntry}
use Rattle.chares.specs.Steps.{Step}
use Rattle.pup_pack.specs.declared.error.PupError.{PupError}
use Rattle.rts_core.specs.declared.event.Event.{Event}
use Rattle.rts_core.specs.Events.{After, Happens}
use Rattle.rts_core.specs.Worlds.{WorldView, opening_world}
use Rattle.overtaking_laws.specs.FreeRuns.{FreeStep, HappensUnordered}
use Rattle.overtaking_laws.specs.FreeRuns.FreeStep.{Makes as FreelyMakes, Overtaking as FreelyOvertaking}
use Rattle.overtaking_laws.specs.Overtaking.{Overtakes}

-- a step of a stale run: an event, or a parcel overtakes those before it, or the location words are any others
pub data StaleStep : Type 0 where
  Makes : Event → StaleStep
  Overtaking : StaleStep
  Relearning : StaleStep

-- a step of a free run is one of a stale run
abbrev pub freely : FreeStep → StaleStep
freely (FreelyMakes event) = Makes event
freely FreelyOvertaking = Overtaking

-- the world with these location words, where all else is as it was
abbrev pub with_words : {C A : Type 0} → WorldView C A → List ℕ → WorldView C A
with_words w words = record w { words = words }

-- In a world the location words become any others; this leads to another.
pub record Relearns {C A : Type 0} (w next : WorldView C A) : Type 0 where
  pub words : List ℕ
  pub leads : next ≡ with_words w words

module _ {C A : Type 0} (step : Step C) (pack : C → List ℕ) (unpack : List ℕ → Result (C × ℕ) PupError) where
  -- a list of such steps reaches one world from another, with the trace: the trace entries of its events, in order
  abbrev pub ReachesStale : WorldView C A → List StaleStep → After C A → Type 0
  ReachesStale w [] last = last ≡ (w, [])
  ReachesStale w (Makes event ∷ steps) last =
      (first : After C A) × (rest : After C A) × Happens step pack unpack w event first × ReachesStale first.0 steps rest × (last ≡ (rest.0, first.1 ++ rest.1))
  ReachesStale w (Overtaking ∷ steps) last = (next : WorldView C A) × Overtakes w next × ReachesStale next steps last
  ReachesStale w (Relearning ∷ steps) last = (next : WorldView C A) × Relearns w next × ReachesStale next steps last

  -- what holds of every stale run: of the chares that it opens with, on some PEs and by some strategy, and of each world that its
  -- steps reach, with its trace
  abbrev pub ForEachStaleRun : (List C → After C A → Type 0) → Type 0
  ForEachStaleRun P = (pes : ℕ) (chares : List C) (strategy : Strategy) (steps : List StaleStep) (last : After C A) → 1 ≤ pes
      → ReachesStale (opening_world pes chares strategy) steps last → P chares last

  -- what holds of every event of every stale run: of the chares that it opens with, of the world before the event, and of the
  -- world after it, with the trace entries of the event
  abbrev pub ForEachStaleStep : (List C → WorldView C A → After C A → Type 0) → Type 0
  ForEachStaleStep P =
      (pes : ℕ) (chares : List C) (strategy : Strategy) (steps : List StaleStep) (w : WorldView C A) (trace : List TraceEntry) (event : Event) (next : After C A)
      → 1 ≤ pes → ReachesStale (opening_world pes chares strategy) steps (w, trace) → Happens step pack unpack w event next → P chares w next

  -- a list of events, each with the location words that the rank which makes it has then, and where each delivery may be of any
  -- parcel, reaches one world from another, with the trace
  abbrev pub ReachesByCopies : WorldView C A → List (List ℕ × Event) → After C A → Type 0
  ReachesByCopies w [] last = last ≡ (w, [])
  ReachesByCopies w ((words, event) ∷ events) last =
      (first : After C A) × (rest : After C A) × HappensUnordered step pack unpack (with_words w words) event first × ReachesByCopies first.0 events rest
      × (last ≡ (rest.0, first.1 ++ rest.1))
