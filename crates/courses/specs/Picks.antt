-- Those events of a list that are enabled, each at its turn.
use Rattle.std.specs.Prelude.{◌≡◌, ◌⊎◌, ℕ, List, [], ◌∷◌, ◌++◌, Option, None, Some, Result}
use Rattle.chares.specs.Steps.{Step}
use Rattle.pup_pack.specs.declared.error.PupError.{PupError}
use Rattle.rts_core.specs.declared.event.Event.{Event}
use Rattle.rts_core.specs.Events.{After, Happens}
use Rattle.rts_core.specs.Worlds.{WorldView}
use Rattle.courses.specs.Courses.{IsEnabled, Made}

module _ {C A : Type 0} (step : Step C) (pack : C → List ℕ) (unpack : List ℕ → Result (C × ℕ) PupError) where
  -- From one world on, each of these events that was enabled at its turn has happened, with these steps, and each that was not
  -- was left out; and that led to another world.
  abbrev pub Picks : WorldView C A → List Event → List Made → WorldView C A → Type 0
  Picks w [] steps last = (steps ≡ []) × (last ≡ w)
  Picks w (event ∷ events) steps last =
      (¬ (IsEnabled step pack unpack w event) × Picks w events steps last)
      ⊎ ((next : After C A) × (rest : List Made) × IsEnabled step pack unpack w event × Happens step pack unpack w event next
      × (steps ≡ (event, next.1) ∷ rest) × Picks next.0 events rest last)

  -- so for all of these events, or for those before one that was refused
  abbrev pub PicksUpTo : WorldView C A → List Event → Option Event → List Made → WorldView C A → Type 0
  PicksUpTo w events None steps last = Picks w events steps last
  PicksUpTo w events (Some refused) steps last =
      (before : List Event) × (rest : List Event) × (events ≡ before ++ refused ∷ rest) × Picks w before steps last
