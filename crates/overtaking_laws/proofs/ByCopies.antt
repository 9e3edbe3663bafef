-- A free run is a stale run, and so is a list of events where each rank has a copy of the location words.
use Rattle.std.proofs.Common.{◌≡◌, ℕ, List, [], ◌∷◌, ◌++◌, refl, subst, inl, inr}
use Rattle.std.specs.Prelude.{Result, map}
use Rattle.chares.specs.declared.trace_entry.TraceEntry.{TraceEntry}
use Rattle.chares.specs.Steps.{Step}
use Rattle.pup_pack.specs.declared.error.PupError.{PupError}
use Rattle.rts_core.specs.declared.event.Event.{Event}
use Rattle.rts_core.specs.declared.event.Event.TheVariants.{Deliver}
use Rattle.rts_core.specs.Events.{After}
use Rattle.rts_core.specs.Worlds.{WorldView}
use Rattle.overtaking_laws.specs.FreeRuns.{FreeStep, ReachesFreely, HappensUnordered}
use Rattle.overtaking_laws.specs.FreeRuns.FreeStep.{Makes as FreelyMakes, Overtaking as FreelyOvertaking}
use Rattle.overtaking_laws.specs.StaleRuns.{StaleStep, ReachesStale, ReachesByCopies, freely, with_words}
use Rattle.overtaking_laws.specs.StaleRuns.StaleStep.{Makes, Overtaking, Relearning}
use Rattle.overtaking_laws.proofs.AnyDelivery.{any_taken}

module _ {C A : Type 0} (step : Step C) (pack : C → List ℕ) (unpack : List ℕ → Result (C × ℕ) PupError) where
  pub free_is_stale : (w : WorldView C A) (steps : List FreeStep) (last : After C A) → ReachesFreely step pack unpack w steps last
      → ReachesStale step pack unpack w (map freely steps) last
  free_is_stale w [] last run = run
  free_is_stale w (FreelyMakes event ∷ steps) last (first, rest, happens, leads, is) = (first, rest, happens, free_is_stale first.0 steps rest leads, is)
  free_is_stale w (FreelyOvertaking ∷ steps) last (next, o, leads) = (next, o, free_is_stale next steps last leads)

  -- one event, with the location words of the rank that makes it, before a stale run
  one_before : (w : WorldView C A) (words : List ℕ) (event : Event) (first rest last : After C A) (steps : List StaleStep)
      → HappensUnordered step pack unpack (with_words w words) event first → ReachesStale step pack unpack first.0 steps rest → last ≡ (rest.0, first.1 ++ rest.1)
      → (more : List StaleStep) × ReachesStale step pack unpack w more last
  one_before w words event first rest last steps (inl happens) leads is = (
    Relearning ∷ Makes event ∷ steps,
    (with_words w words, record { words = words; leads = refl }, (first, rest, happens, leads, is)),
  )
  one_before w words event first rest last steps (inr (p, delivers, takes, quiet)) leads is =
      let b = any_taken step pack unpack p (with_words w words) first.0 takes in
      let silent : last ≡ (rest.0, [] ++ rest.1) = subst (λ (v : List TraceEntry). last ≡ (rest.0, v ++ rest.1)) quiet is in (
        Relearning ∷ Overtaking ∷ Makes (Deliver p) ∷ steps,
        (with_words w words, record { words = words; leads = refl }, (b.0, b.1, ((first.0, []), rest, b.2, leads, silent))),
      )

  pub copies_stale : (w : WorldView C A) (events : List (List ℕ × Event)) (last : After C A) → ReachesByCopies step pack unpack w events last
      → (steps : List StaleStep) × ReachesStale step pack unpack w steps last
  copies_stale w [] last run = ([], run)
  copies_stale w ((words, event) ∷ events) last (first, rest, happens, leads, is) =
      let later = copies_stale first.0 events rest leads in
      one_before w words event first rest last later.0 happens later.1 is
