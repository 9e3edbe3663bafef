-- The laws of stale runs, and of their events, hold of runs of ranks.
use Rattle.std.proofs.Common.{◌≡◌, ℕ, ◌≤◌, List, [], ◌∷◌, ◌++◌, Option, None, Some, refl, ap, subst, sym, ◌∙◌, inl, inr, append-nil}
use Rattle.sync_board.specs.declared.strategy.Strategy.{Strategy}
use Rattle.chares.specs.declared.trace_entry.TraceEntry.{TraceEntry}
use Rattle.foreign_chare.specs.Scripts.{Stamp}
use Rattle.overtaking_laws.specs.FreeRuns.{HappensUnordered}
use Rattle.overtaking_laws.specs.StaleRuns.{StaleStep, ReachesByCopies, ReachesStale, with_words}
use Rattle.overtaking_laws.specs.StaleRuns.StaleStep.{Makes, Overtaking, Relearning}
use Rattle.overtaking_laws.proofs.ByCopies.{copies_stale}
use Rattle.rank_calls.specs.Runs.{Run, opening, stamp_pack, stamp_unpack, step_in}
use Rattle.rank_ledgers.specs.Ranks.{done_by}
use Rattle.rank_worlds.specs.LateNotes.{LateStep}
use Rattle.rank_worlds.specs.LateNotes.LateStep.{Asks, Takes, Decides}
use Rattle.rank_worlds.specs.LateRuns.{ForEachLateRun, ForEachLateStep, event_in, late_event, with_copy}
use Rattle.rts_core.specs.Events.{After, Happens}
use Rattle.rts_core.specs.Worlds.{WorldView, opening_world}
use Rattle.rts_core.specs.declared.event.Event.{Event}
use Rattle.rts_core.specs.declared.event.Event.TheVariants.{Decide, Report}

-- a law of stale runs, from the opening of an array of stamps on, holds of every run of ranks
pub each_late : {A : Type 0} (Q : Run → After Stamp A → Type 0)
    → ((run : Run) (strategy : Strategy) (steps : List StaleStep) (led : After Stamp A) → 1 ≤ run.pes
    → ReachesStale (step_in run) stamp_pack stamp_unpack (opening_world run.pes (opening run) strategy) steps led → Q run led)
    → ForEachLateRun (λ (run : Run) (w : WorldView Stamp A) (trace : List TraceEntry). Q run (w, trace))
each_late Q law run strategy steps last some reached w led =
    let stale = copies_stale (step_in run) stamp_pack stamp_unpack (opening_world run.pes (opening run) strategy) _ (w, last.1) led.reaches in
    law run strategy stale.0 (w, last.1) some stale.1

module _ {A : Type 0} (run : Run) where
  -- after a stale run the location words may become any others
  relearned : (w : WorldView Stamp A) (steps : List StaleStep) (last : After Stamp A) (words : List ℕ)
      → ReachesStale (step_in run) stamp_pack stamp_unpack w steps last
      → (more : List StaleStep) × ReachesStale (step_in run) stamp_pack stamp_unpack w more (with_words last.0 words, last.1)
  relearned w [] last words leads = (
    Relearning ∷ [],
    (with_words w words, record { words = words; leads = refl }, ap (λ (v : After Stamp A). (with_words v.0 words, v.1)) leads),
  )
  relearned w (Makes event ∷ steps) last words (first, rest, happens, leads, is) =
      let later = relearned first.0 steps rest words leads in
      (Makes event ∷ later.0, (first, (with_words rest.0 words, rest.1), happens, later.1, ap (λ (v : After Stamp A). (with_words v.0 words, v.1)) is))
  relearned w (Overtaking ∷ steps) last words (next, o, leads) =
      let later = relearned next steps last words leads in (Overtaking ∷ later.0, (next, o, later.1))
  relearned w (Relearning ∷ steps) last words (next, o, leads) =
      let later = relearned next steps last words leads in (Relearning ∷ later.0, (next, o, later.1))

-- A law of the events of stale runs holds of the steps of runs of ranks, where it says nothing of events without trace entries, nor of the
-- location words.
module _ {A : Type 0} (Q : Run → WorldView Stamp A → After Stamp A → Type 0) (quiet : (run : Run) (w : WorldView Stamp A) (next : After Stamp A) → next.1 ≡ [] → Q run w next)
    (wordless : (run : Run) (w : WorldView Stamp A) (words : List ℕ) (next : After Stamp A) → Q run (with_words w words) next → Q run w next)
    (law : (run : Run) (strategy : Strategy) (steps : List StaleStep) (w : WorldView Stamp A) (trace : List TraceEntry) (event : Event) (next : After Stamp A) → 1 ≤ run.pes
    → ReachesStale (step_in run) stamp_pack stamp_unpack (opening_world run.pes (opening run) strategy) steps (w, trace)
    → Happens (step_in run) stamp_pack stamp_unpack w event next → Q run w next)
  where
    module _ (run : Run) (strategy : Strategy) (some : 1 ≤ run.pes) (steps : List StaleStep) (w : WorldView Stamp A) (trace : List TraceEntry)
        (reached : ReachesStale (step_in run) stamp_pack stamp_unpack (opening_world run.pes (opening run) strategy) steps (w, trace)) where
      of_event : (words : List ℕ) (event : Event) (next : After Stamp A) → HappensUnordered (step_in run) stamp_pack stamp_unpack (with_words w words) event next → Q run w next
      of_event words event next (inl happens) =
          let now = relearned run (opening_world run.pes (opening run) strategy) steps (w, trace) words reached in
          wordless run w words next (law run strategy now.0 (with_words w words) trace event next some now.1 happens)
      of_event words event next (inr (p, delivers, takes, none)) = quiet run w next none

      of_step : (words : List ℕ) (event : Option Event) (next : After Stamp A)
          → ReachesByCopies (step_in run) stamp_pack stamp_unpack w (with_copy words event) next → Q run w next
      of_step words None next leads = quiet run w next (ap (λ (v : After Stamp A). v.1) leads)
      of_step words (Some event) next (first, rest, happens, leads, is) =
          let same : next ≡ first = is ∙ ap (λ (v : After Stamp A). (v.0, first.1 ++ v.1)) leads ∙ ap (λ (v : List TraceEntry). (first.0, v)) (append-nil first.1) in
          subst (Q run w) (sym same) (of_event words event first happens)

      of_made : (made : LateStep) (next : After Stamp A) → ReachesByCopies (step_in run) stamp_pack stamp_unpack w (event_in made) next → Q run w next
      of_made (Asks words p request reply) next leads = of_step words (late_event p (done_by request reply)) next leads
      of_made (Takes p) next leads = of_step [] (Some (Report p)) next leads
      of_made Decides next leads = of_step [] (Some Decide) next leads

    pub each_step : ForEachLateStep Q
    each_step run strategy steps last next made some reached leads w after led of_next happens =
        let stale = copies_stale (step_in run) stamp_pack stamp_unpack (opening_world run.pes (opening run) strategy) _ (w, last.1) led.reaches in
        of_made run strategy some stale.0 w last.1 stale.1 made (after, next.1)
        (subst (λ (v : List (List ℕ × Event)). ReachesByCopies (step_in run) stamp_pack stamp_unpack w v (after, next.1)) (append-nil (event_in made)) happens)
