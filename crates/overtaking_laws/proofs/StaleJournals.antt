-- In every stale run, every letter in a journal is to the element whose journal it is.
use Rattle.std.proofs.Common.{ℕ, List}
use Rattle.std.specs.Prelude.{Result}
use Rattle.sync_board.specs.declared.strategy.Strategy.{Strategy}
use Rattle.chares.specs.declared.trace_entry.TraceEntry.{TraceEntry}
use Rattle.chares.specs.Steps.{Step}
use Rattle.pup_pack.specs.declared.error.PupError.{PupError}
use Rattle.rts_core.specs.Events.{After}
use Rattle.rts_core.specs.Own.{AreOwn}
use Rattle.rts_core.specs.Worlds.{WorldView, opening_world}
use Rattle.rts_core.proofs.EachElement.{WorldKept, event_kept, opening_kept}
use Rattle.event_laws.proofs.OwnJournals.{FitsOwn, PackedOwn, own_kept, world_owned}
use Rattle.overtaking_laws.specs.StaleRuns.{StaleStep, ReachesStale}
use Rattle.overtaking_laws.proofs.Carrying.{IsCarried, IsCarriedStale, stale_carried_from}
use Rattle.overtaking_laws.proofs.Overtaken.{world_kept}

module _ {C A : Type 0} (step : Step C) (pack : C → List ℕ) (unpack : List ℕ → Result (C × ℕ) PupError) (pes : ℕ) (chares : List C) (strategy : Strategy) where
  abbrev Owned : WorldView C A → List TraceEntry → Type 0
  Owned w trace = WorldKept (FitsOwn {C = C}) PackedOwn w

  owned_carried : IsCarried step pack unpack Owned
  owned_carried =
      record {
        happens = λ w trace event next h happens. event_kept step pack FitsOwn PackedOwn (own_kept step pack) unpack w event next h happens;
        overtakes = λ w trace h q before parcel after queued. world_kept w q before parcel after queued FitsOwn PackedOwn h;
      }

  owned_stale : IsCarriedStale step pack unpack Owned
  owned_stale = record { freely = owned_carried; relearns = λ w trace h words. record { pes = h.pes; queues = h.queues } }

  pub stale_owned : (steps : List StaleStep) (last : After C A) → ReachesStale step pack unpack (opening_world pes chares strategy) steps last
      → WorldKept (FitsOwn {C = C}) PackedOwn last.0
  stale_owned steps last run =
      stale_carried_from step pack unpack Owned owned_stale (opening_world pes chares strategy) steps last
      (opening_kept step pack FitsOwn PackedOwn (own_kept step pack) A pes chares strategy) run

  pub stale_own : (steps : List StaleStep) (last : After C A) → ReachesStale step pack unpack (opening_world pes chares strategy) steps last → AreOwn last.0
  stale_own steps last run = world_owned last.0 (stale_owned steps last run)
