-- Runs whose steps a seed draws.
use Rattle.std.specs.Prelude.{◌≡◌, ℕ, List, Option, IfSome, Result}
use Rattle.chares.specs.Steps.{Step}
use Rattle.courses.specs.Courses.{Made}
use Rattle.pup_pack.specs.declared.error.PupError.{PupError}
use Rattle.rts_core.specs.Worlds.{WorldView}
use Rattle.rts_core.specs.declared.event.Event.{Event}
use Rattle.schedules.specs.Courses.{ExploredView, IsDone, left_by}
use Rattle.schedules.specs.Draws.{DrawsAll, IsChosen, Turn}
use Rattle.schedules.specs.declared.bias.Bias.{Bias}

module _ {C A : Type 0} (step : Step C) (pack : C → List ℕ) (unpack : List ℕ → Result (C × ℕ) PupError) (bias : Bias) where
  -- From this turn on, these steps are those that are drawn, one after another, up to this world; and where an event was refused
  -- there, it is the one that was drawn next. Each was drawn in a world that was not done.
  pub record DrawsTo (at : Turn C A) (steps : List Made) (world : WorldView C A) (refused : Option Event) : Type 0 where
    pub last : Turn C A
    pub drawn : DrawsAll step pack unpack bias at steps last
    pub left : last.world ≡ world
    pub next : IfSome refused (λ event. ¬ (IsDone last.world) × IsChosen step pack unpack bias last event)

  -- The steps of a run that opened with this world are those that this seed draws. The generator's first state is the seed, and each
  -- element is at first where its location word says.
  abbrev pub IsDrawn : ℕ → WorldView C A → ExploredView C A → Type 0
  IsDrawn seed opening x = DrawsTo (record { state = seed; world = opening; places = opening.words }) x.steps (left_by x) x.refused
