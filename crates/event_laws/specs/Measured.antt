-- What is measured of a round is what the elements did for it. Source: the Charm++ manual on measurement-based load
-- balancing, where the load of an object is what the runtime measured of its work, and is the forecast for what it will do.
use Rattle.std.specs.Prelude.{◌≡◌, ◌<◌, ℕ, List, length, Contains, Some, slice_get}
use Rattle.lb_snapshot.specs.Measured.{Taken}
use Rattle.sync_board.specs.Boards.{Kept, kept_of}
use Rattle.chares.specs.declared.trace_entry.TraceEntry.TheVariants.{Decided}
use Rattle.chares.specs.Steps.{Step}
use Rattle.event_laws.specs.Rounds.{IsPhase}
use Rattle.event_laws.specs.Agreement.{IsTakenOf}
use Rattle.rts_core.specs.Events.{After}
use Rattle.rts_core.specs.Histories.{AreHistories}
use Rattle.rts_core.specs.Worlds.{WorldView}

-- The snapshot of round r measures element e of a world: it has the element on the PE in whose room it is, and its load and
-- its size are those of the entries of its journal for this round, from the chare on that its array opened with.
pub record Measures {C A : Type 0} (step : Step C) (pack : C → List ℕ) (opened : List C) (w : WorldView C A) (snapshot : Taken) (e r : ℕ) : Type 0 where
  pub taken : IsTakenOf w snapshot e r
  pub chare : C
  pub opens : slice_get opened e ≡ Some chare
  pub did : IsPhase step pack (length opened) e chare taken.el.journal r taken.load taken.bytes

-- an event that decides a round, in a world whose elements are what their journals say, keeps a snapshot of it that measures
-- every element
abbrev pub Forecasts : {C A : Type 0} → Step C → (C → Type 0) → (C → List ℕ) → List C → WorldView C A → After C A → Type 0
Forecasts {C} {A} step fits pack opened w next =
    (r : ℕ) → AreHistories step fits pack opened w → Contains next.1 (Decided r)
    → (kept : Kept A) × (kept_of next.0.board.rounds r ≡ Some kept) × ((e : ℕ) → e < length opened → Measures step pack opened w kept.0 e r)
