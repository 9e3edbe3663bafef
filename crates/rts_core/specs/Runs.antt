-- Runs: the world that a list of events, one after another, leads to.
use Rattle.std.specs.Prelude.{◌≡◌, ◌≤◌, ℕ, List, [], ◌∷◌, ◌++◌, Result}
use Rattle.chares.specs.declared.trace_entry.TraceEntry.{TraceEntry}
use Rattle.chares.specs.Steps.{Step}
use Rattle.pup_pack.specs.declared.error.PupError.{PupError}
use Rattle.rts_core.specs.declared.event.Event.{Event}
use Rattle.rts_core.specs.Events.{After, Happens}
use Rattle.rts_core.specs.Worlds.{WorldView, opening_world}
use Rattle.sync_board.specs.declared.strategy.Strategy.{Strategy}

module _ {C A : Type 0} (step : Step C) (pack : C → List ℕ) (unpack : List ℕ → Result (C × ℕ) PupError) where
  -- a list of events reaches one world from another, with the trace: the trace entries of its events, in order
  abbrev pub Reaches : WorldView C A → List Event → After C A → Type 0
  Reaches w [] last = last ≡ (w, [])
  Reaches w (event ∷ events) last =
      (first : After C A) × (rest : After C A) × Happens step pack unpack w event first × Reaches first.0 events rest × (last ≡ (rest.0, first.1 ++ rest.1))

  -- a list of events reaches a world, with its trace, from the opening of these chares on this number of PEs, whose rounds are
  -- decided by this strategy
  abbrev pub RunsTo : ℕ → List C → Strategy → List Event → After C A → Type 0
  RunsTo pes chares strategy events last = Reaches (opening_world pes chares strategy) events last

  -- what holds of every run: of the chares that it opens with, on some PEs and by some strategy, and of each world that a list of
  -- events reaches, with its trace
  abbrev pub ForEachRun : (List C → After C A → Type 0) → Type 0
  ForEachRun P = (pes : ℕ) (chares : List C) (strategy : Strategy) (events : List Event) (last : After C A) → 1 ≤ pes
      → Reaches (opening_world pes chares strategy) events last → P chares last

  -- what holds of every event of every run: of the chares that it opens with, of the world before the event, and of the
  -- world after it, with the trace entries of the event
  abbrev pub ForEachStep : (List C → WorldView C A → After C A → Type 0) → Type 0
  ForEachStep P =
      (pes : ℕ) (chares : List C) (strategy : Strategy) (events : List Event) (w : WorldView C A) (trace : List TraceEntry) (event : Event) (next : After C A)
      → 1 ≤ pes → Reaches (opening_world pes chares strategy) events (w, trace) → Happens step pack unpack w event next → P chares w next

  -- what holds of every event in any world: of the world before it, and of the world after it, with its trace entries
  abbrev pub ForEachEvent : (WorldView C A → After C A → Type 0) → Type 0
  ForEachEvent P = (w : WorldView C A) (event : Event) (next : After C A) → Happens step pack unpack w event next → P w next
