-- The barrier of every stale run.
use Rattle.std.proofs.Common.{◌≡◌, ℕ, ◌<◌, ◌≤◌, List, length, Some, ◌∙◌}
use Rattle.std.specs.Prelude.{Result, Contains}
use Rattle.sync_board.specs.Boards.{Kept as KeptRound, kept_of}
use Rattle.sync_board.specs.declared.strategy.Strategy.{Strategy}
use Rattle.chares.specs.declared.trace_entry.TraceEntry.{TraceEntry}
use Rattle.chares.specs.declared.trace_entry.TraceEntry.TheVariants.{Resumed, Decided}
use Rattle.chares.specs.Steps.{Step}
use Rattle.pup_pack.specs.declared.error.PupError.{PupError}
use Rattle.rts_core.specs.declared.event.Event.{Event}
use Rattle.rts_core.specs.Events.{After, Happens}
use Rattle.rts_core.specs.Histories.{AreHistories}
use Rattle.rts_core.specs.Orders.{AreInOrder}
use Rattle.rts_core.specs.Worlds.{WorldView, opening_world}
use Rattle.rts_core.proofs.EachElement.{event_kept, opening_kept}
use Rattle.rts_core.proofs.Listings.{no_letter}
use Rattle.event_laws.specs.Barrier.{IsBarrier, StandsInItsPlace}
use Rattle.event_laws.specs.Measured.{Measures}
use Rattle.event_laws.proofs.AgreeingEvents.{Sound}
use Rattle.event_laws.proofs.BarrierRuns.{event_tells, opening_tells, sound_stands, told_barrier}
use Rattle.event_laws.proofs.BoardTraces.{Tells}
use Rattle.event_laws.proofs.Measured.{all_measured}
use Rattle.event_laws.proofs.OrderedRounds.{FitsInOrder, PackedInOrder, AllOrdered, order_kept, are_in_order}
use Rattle.event_laws.proofs.ResumedOnce.{once_gained}
use Rattle.event_laws.proofs.Resumptions.{resumed_in}
use Rattle.event_laws.proofs.RunResumptions.{WorldGains, gains_none, gains_join, event_gains}
use Rattle.event_laws.proofs.Snapshots.{Snapped, event_snaps}
use Rattle.overtaking_laws.specs.StaleRuns.{StaleStep, ReachesStale}
use Rattle.overtaking_laws.proofs.Carrying.{IsCarried, IsCarriedStale, stale_carried_from}
use Rattle.overtaking_laws.proofs.StaleAccounts.{stale_keeps}
use Rattle.overtaking_laws.proofs.StaleAgreement.{stale_said}
use Rattle.overtaking_laws.proofs.Overtaken.{same_weight, world_kept}

module _ {C A : Type 0} (step : Step C) (pack : C → List ℕ) (unpack : List ℕ → Result (C × ℕ) PupError) (pes : ℕ) (chares : List C) (strategy : Strategy) where
  abbrev first : WorldView C A
  first = opening_world pes chares strategy

  -- ---- the board, as the trace tells of it

  abbrev Told : WorldView C A → List TraceEntry → Type 0
  Told w trace = Tells (length chares) w.board trace

  told_carried : IsCarried step pack unpack Told
  told_carried =
      record {
        happens = λ w trace event next h happens. event_tells step pack unpack (length chares) w trace h event next happens;
        overtakes = λ w trace h q before parcel after queued. h;
      }

  told_stale : IsCarriedStale step pack unpack Told
  told_stale = record { freely = told_carried; relearns = λ w trace h words. h }

  stale_tells : (steps : List StaleStep) (last : After C A) → ReachesStale step pack unpack first steps last → Tells (length chares) last.0.board last.1
  stale_tells steps last run = stale_carried_from step pack unpack Told told_stale first steps last (opening_tells step pack unpack (length chares) pes strategy) run

  -- ---- the resumptions in journals

  abbrev Gained : WorldView C A → List TraceEntry → Type 0
  Gained w trace = AllOrdered w × WorldGains first (w, trace)

  gained_carried : IsCarried step pack unpack Gained
  gained_carried =
      record {
        happens = λ w trace event next h happens. (
          event_kept step pack FitsInOrder PackedInOrder (order_kept step pack) unpack w event next h.0 happens,
          gains_join first (w, trace) next h.1 (event_gains step pack unpack w h.0 event next happens),
        );
        overtakes = λ w trace h q before parcel after queued. (
          world_kept w q before parcel after queued FitsInOrder PackedInOrder h.0,
          λ e r. same_weight w q before parcel after queued no_letter (resumed_in e r) ∙ h.1 e r,
        );
      }

  gained_stale : IsCarriedStale step pack unpack Gained
  gained_stale = record { freely = gained_carried; relearns = λ w trace h words. (record { pes = h.0.pes; queues = h.0.queues }, h.1) }

  stale_gains : (steps : List StaleStep) (last : After C A) → ReachesStale step pack unpack first steps last → Gained last.0 last.1
  stale_gains steps last run =
      stale_carried_from step pack unpack Gained gained_stale first steps last
      (opening_kept step pack FitsInOrder PackedInOrder (order_kept step pack) A pes chares strategy, gains_none first) run

  pub stale_in_order : (steps : List StaleStep) (last : After C A) → ReachesStale step pack unpack first steps last → AreInOrder last.0
  stale_in_order steps last run = are_in_order last.0 (stale_gains steps last run).0

  module _ (some : 1 ≤ pes) (steps : List StaleStep) where
    pub stale_barrier : (last : After C A) → ReachesStale step pack unpack first steps last → IsBarrier (length chares) last.1
    stale_barrier last run =
        let gained : Gained last.0 last.1 = stale_gains steps last run in
        told_barrier (length chares) last.0.board last.1 (stale_tells steps last run)
        (λ e r. once_gained e r pes chares strategy some last.0 last.1 gained.0 gained.1 (stale_keeps step pack unpack pes chares strategy some steps last run))

    -- ---- an event after such a run

    module _ (w : WorldView C A) (trace : List TraceEntry) (event : Event) (next : After C A) (run : ReachesStale step pack unpack first steps (w, trace))
        (happens : Happens step pack unpack w event next) where
      sound : Sound (length chares) w
      sound = (stale_said step pack unpack pes chares strategy some steps (w, trace) run).sound

      pub stale_snaps : (r : ℕ) → Contains next.1 (Decided r) → Snapped (length chares) w next.0.board r
      stale_snaps r there = event_snaps step pack unpack (length chares) w sound event next r happens there

      pub stale_stands : (e r : ℕ) → Contains next.1 (Resumed e r) → 1 ≤ r → StandsInItsPlace w e r × StandsInItsPlace next.0 e r
      stale_stands e r there later = sound_stands step pack unpack (length chares) w event next e r sound happens there later

      pub stale_measured : (fits : C → Type 0) (r : ℕ) → AreHistories step fits pack chares w → Contains next.1 (Decided r)
          → (kept : KeptRound A) × (kept_of next.0.board.rounds r ≡ Some kept) × ((e : ℕ) → e < length chares → Measures step pack chares w kept.0 e r)
      stale_measured fits r are there = all_measured step fits pack chares w next.0.board r (stale_snaps r there) are
