-- Free runs: those over a network that keeps no order. They are lists of events, one after another, between which any parcel
-- in a queue may overtake those before it. Runs where a PE takes any parcel out of its queue are among them.
use Rattle.std.specs.Prelude.{◌≡◌, ℕ, ◌≤◌, List, [], ◌∷◌, ◌++◌, Result, ◌⊎◌}
use Rattle.sync_board.specs.declared.strategy.Strategy.{Strategy}
use Rattle.chares.specs.declared.trace_entry.TraceEntry.{TraceEntry}
use Rattle.chares.specs.Steps.{Step}
use Rattle.pup_pack.specs.declared.error.PupError.{PupError}
use Rattle.rts_core.specs.declared.event.Event.{Event}
use Rattle.rts_core.specs.declared.event.Event.TheVariants.{Deliver}
use Rattle.rts_core.specs.Events.{After, Happens}
use Rattle.rts_core.specs.Worlds.{WorldView, opening_world}
use Rattle.overtaking_laws.specs.Overtaking.{Overtakes, TakesAny}

-- a step of a free run: an event, or a parcel overtakes those before it
pub data FreeStep : Type 0 where
  Makes : Event → FreeStep
  Overtaking : FreeStep

module _ {C A : Type 0} (step : Step C) (pack : C → List ℕ) (unpack : List ℕ → Result (C × ℕ) PupError) where
  -- a list of such steps reaches one world from another, with the trace: the trace entries of its events, in order
  abbrev pub ReachesFreely : WorldView C A → List FreeStep → After C A → Type 0
  ReachesFreely w [] last = last ≡ (w, [])
  ReachesFreely w (Makes event ∷ steps) last =
      (first : After C A) × (rest : After C A) × Happens step pack unpack w event first × ReachesFreely first.0 steps rest × (last ≡ (rest.0, first.1 ++ rest.1))
  ReachesFreely w (Overtaking ∷ steps) last = (next : WorldView C A) × Overtakes w next × ReachesFreely next steps last

  -- what holds of every free run: of the chares that it opens with, on some PEs and by some strategy, and of each world that its
  -- steps reach, with its trace
  abbrev pub ForEachFreeRun : (List C → After C A → Type 0) → Type 0
  ForEachFreeRun P = (pes : ℕ) (chares : List C) (strategy : Strategy) (steps : List FreeStep) (last : After C A) → 1 ≤ pes
      → ReachesFreely (opening_world pes chares strategy) steps last → P chares last

  -- what holds of every event of every free run: of the chares that it opens with, of the world before the event, and of the
  -- world after it, with the trace entries of the event
  abbrev pub ForEachFreeStep : (List C → WorldView C A → After C A → Type 0) → Type 0
  ForEachFreeStep P =
      (pes : ℕ) (chares : List C) (strategy : Strategy) (steps : List FreeStep) (w : WorldView C A) (trace : List TraceEntry) (event : Event) (next : After C A)
      → 1 ≤ pes → ReachesFreely (opening_world pes chares strategy) steps (w, trace) → Happens step pack unpack w event next → P chares w next

  -- an event happens as it does where queues keep their order, or is a delivery of any parcel
  abbrev pub HappensUnordered : WorldView C A → Event → After C A → Type 0
  HappensUnordered w event next = Happens step pack unpack w event next ⊎ ((p : ℕ) × (event ≡ Deliver p) × TakesAny p w next.0 × (next.1 ≡ []))

  -- a list of events where each delivery may be of any parcel reaches one world from another, with the trace
  abbrev pub ReachesUnordered : WorldView C A → List Event → After C A → Type 0
  ReachesUnordered w [] last = last ≡ (w, [])
  ReachesUnordered w (event ∷ events) last =
      (first : After C A) × (rest : After C A) × HappensUnordered w event first × ReachesUnordered first.0 events rest × (last ≡ (rest.0, first.1 ++ rest.1))
