-- Courses of a world: with one more step, and as lists of events with their trace.
use Rattle.std.proofs.Common.{ℕ, List, [], ◌∷◌, ◌++◌, refl, ap, subst}
use Rattle.std.specs.Prelude.{Result}
use Rattle.chares.specs.declared.trace_entry.TraceEntry.{TraceEntry}
use Rattle.chares.specs.Steps.{Step}
use Rattle.pup_pack.specs.declared.error.PupError.{PupError}
use Rattle.rts_core.specs.declared.event.Event.{Event}
use Rattle.rts_core.specs.Events.{Happens}
use Rattle.rts_core.specs.Runs.{Reaches}
use Rattle.rts_core.specs.Worlds.{WorldView}
use Rattle.courses.specs.Courses.{IsEnabled, Leads, Made, events_of, trace_of}

module _ {C A : Type 0} (step : Step C) (pack : C → List ℕ) (unpack : List ℕ → Result (C × ℕ) PupError) where
  -- one more step
  pub leads_more : (w v next : WorldView C A) (steps : List Made) (event : Event) (entries : List TraceEntry)
      → Leads step pack unpack w steps v → IsEnabled step pack unpack v event → Happens step pack unpack v event (next, entries)
      → Leads step pack unpack w (steps ++ (event, entries) ∷ []) next
  leads_more w v next [] event entries led may did = (
    next,
    subst (λ (u : WorldView C A). IsEnabled step pack unpack u event) led may,
    subst (λ (u : WorldView C A). Happens step pack unpack u event (next, entries)) led did,
    refl,
  )
  leads_more w v next (made ∷ steps) event entries (mid, enabled, happened, rest) may did =
      (mid, enabled, happened, leads_more mid v next steps event entries rest may did)

  -- the events of a course lead to its world, with its trace
  pub reaches : (w last : WorldView C A) (steps : List Made) → Leads step pack unpack w steps last → Reaches step pack unpack w (events_of steps) (last, trace_of steps)
  reaches w last [] led = ap (λ (u : WorldView C A). (u, [])) led
  reaches w last (made ∷ steps) (mid, enabled, happened, rest) = ((mid, made.1), (last, trace_of steps), happened, reaches mid last steps rest, refl)
