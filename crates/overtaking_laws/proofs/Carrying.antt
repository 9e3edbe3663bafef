-- What each step of a free run keeps holds of every free run, and what each step of a stale run keeps of every stale run.
use Rattle.std.proofs.Common.{◌≡◌, ℕ, List, [], ◌∷◌, ◌++◌, Some, sym, subst, append_assoc, append-nil}
use Rattle.std.specs.Prelude.{Result, slice_get}
use Rattle.chares.specs.declared.trace_entry.TraceEntry.{TraceEntry}
use Rattle.chares.specs.Steps.{Step}
use Rattle.pe_state.specs.Pes.{Parcel}
use Rattle.pup_pack.specs.declared.error.PupError.{PupError}
use Rattle.rts_core.specs.declared.event.Event.{Event}
use Rattle.rts_core.specs.Events.{After, Happens}
use Rattle.rts_core.specs.Worlds.{WorldView}
use Rattle.overtaking_laws.specs.FreeRuns.{FreeStep, ReachesFreely}
use Rattle.overtaking_laws.specs.FreeRuns.FreeStep.{Makes, Overtaking}
use Rattle.overtaking_laws.specs.Overtaking.{overtaken, Overtakes}
use Rattle.overtaking_laws.specs.StaleRuns.{StaleStep, ReachesStale, Relearns, with_words}
use Rattle.overtaking_laws.specs.StaleRuns.StaleStep.{Makes as StaleMakes, Overtaking as StaleOvertaking, Relearning}

-- what a parcel that overtakes others leaves as it is holds of the world that it leads to
pub overtaken_so : {C A : Type 0} (P : WorldView C A → Type 0) (w next : WorldView C A) → Overtakes w next
    → ((q : ℕ) (before : List Parcel) (parcel : Parcel) (after : List Parcel) → slice_get w.queues q ≡ Some (before ++ parcel ∷ after) → P (overtaken w q before parcel after))
    → P next
overtaken_so P w next o kept = subst P (sym o.leads) (kept o.q o.before o.parcel o.after o.queued)

module _ {C A : Type 0} (step : Step C) (pack : C → List ℕ) (unpack : List ℕ → Result (C × ℕ) PupError) (P : WorldView C A → List TraceEntry → Type 0) where
  -- something holds of worlds with their traces after each step of a free run, if it held before
  pub record IsCarried : Type 0 where
    pub happens : (w : WorldView C A) (trace : List TraceEntry) (event : Event) (next : After C A) → P w trace → Happens step pack unpack w event next
        → P next.0 (trace ++ next.1)
    pub overtakes : (w : WorldView C A) (trace : List TraceEntry) → P w trace → (q : ℕ) (before : List Parcel) (parcel : Parcel) (after : List Parcel)
        → slice_get w.queues q ≡ Some (before ++ parcel ∷ after) → P (overtaken w q before parcel after) trace

  -- and also whatever the location words become
  pub record IsCarriedStale : Type 0 where
    pub freely : IsCarried
    pub relearns : (w : WorldView C A) (trace : List TraceEntry) → P w trace → (words : List ℕ) → P (with_words w words) trace

  ended : (w : WorldView C A) (trace : List TraceEntry) (last : After C A) → P w trace → last ≡ (w, []) → P last.0 (trace ++ last.1)
  ended w trace last h is = subst (λ (v : After C A). P v.0 (trace ++ v.1)) (sym is) (subst (λ (v : List TraceEntry). P w v) (sym (append-nil trace)) h)

  joined : (trace : List TraceEntry) (first rest last : After C A) → P rest.0 ((trace ++ first.1) ++ rest.1) → last ≡ (rest.0, first.1 ++ rest.1)
      → P last.0 (trace ++ last.1)
  joined trace first rest last h is =
      subst (λ (v : After C A). P v.0 (trace ++ v.1)) (sym is) (subst (λ (v : List TraceEntry). P rest.0 v) (append_assoc trace first.1 rest.1) h)

  module _ (carried : IsCarried) where
    over : (w next : WorldView C A) (trace : List TraceEntry) → P w trace → Overtakes w next → P next trace
    over w next trace h o = overtaken_so (λ (v : WorldView C A). P v trace) w next o (carried.overtakes w trace h)

    pub run_carried : (w : WorldView C A) (trace : List TraceEntry) (steps : List FreeStep) (last : After C A) → P w trace
        → ReachesFreely step pack unpack w steps last → P last.0 (trace ++ last.1)
    run_carried w trace [] last h run = ended w trace last h run
    run_carried w trace (Makes event ∷ steps) last h (first, rest, happens, leads, is) =
        joined trace first rest last (run_carried first.0 (trace ++ first.1) steps rest (carried.happens w trace event first h happens) leads) is
    run_carried w trace (Overtaking ∷ steps) last h (next, o, leads) = run_carried next trace steps last (over w next trace h o) leads

    -- from the beginning of a trace on
    pub carried_from : (w : WorldView C A) (steps : List FreeStep) (last : After C A) → P w [] → ReachesFreely step pack unpack w steps last → P last.0 last.1
    carried_from w steps last h run = run_carried w [] steps last h run

  module _ (carried : IsCarriedStale) where
    relearned : (w next : WorldView C A) (trace : List TraceEntry) → P w trace → Relearns w next → P next trace
    relearned w next trace h o = subst (λ (v : WorldView C A). P v trace) (sym o.leads) (carried.relearns w trace h o.words)

    pub stale_carried : (w : WorldView C A) (trace : List TraceEntry) (steps : List StaleStep) (last : After C A) → P w trace
        → ReachesStale step pack unpack w steps last → P last.0 (trace ++ last.1)
    stale_carried w trace [] last h run = ended w trace last h run
    stale_carried w trace (StaleMakes event ∷ steps) last h (first, rest, happens, leads, is) =
        joined trace first rest last (stale_carried first.0 (trace ++ first.1) steps rest (carried.freely.happens w trace event first h happens) leads) is
    stale_carried w trace (StaleOvertaking ∷ steps) last h (next, o, leads) = stale_carried next trace steps last (over carried.freely w next trace h o) leads
    stale_carried w trace (Relearning ∷ steps) last h (next, o, leads) = stale_carried next trace steps last (relearned w next trace h o) leads

    -- from the beginning of a trace on
    pub stale_carried_from : (w : WorldView C A) (steps : List StaleStep) (last : After C A) → P w [] → ReachesStale step pack unpack w steps last
        → P last.0 last.1
    stale_carried_from w steps last h run = stale_carried w [] steps last h run
