-- A world and its board agree in every stale run.
use Rattle.std.proofs.Common.{◌≡◌, ℕ, ◌≤◌, List, ◌∷◌, ◌++◌, length, Some, ◌∙◌}
use Rattle.std.specs.Prelude.{Result, slice_get}
use Rattle.sync_board.specs.declared.strategy.Strategy.{Strategy}
use Rattle.chares.specs.declared.trace_entry.TraceEntry.{TraceEntry}
use Rattle.chares.specs.declared.progress.Progress.{Progress}
use Rattle.chares.specs.Steps.{Step}
use Rattle.pup_pack.specs.declared.error.PupError.{PupError}
use Rattle.pe_state.specs.Pes.{Parcel}
use Rattle.rts_core.specs.Events.{After}
use Rattle.rts_core.specs.Worlds.{WorldView, opening_world}
use Rattle.rts_core.proofs.Listings.{no_letter}
use Rattle.rts_core.proofs.OpeningWeights.{one_at}
use Rattle.rts_core.proofs.RunLaws.{by_index}
use Rattle.event_laws.specs.Agreement.{AgreesOn}
use Rattle.event_laws.specs.Finished.{HoldsIn, HoldsOfEach, IsSaid}
use Rattle.event_laws.proofs.AgreeingEvents.{Sound, opening_sound}
use Rattle.event_laws.proofs.Finished.{HasFinished, ToldIn, SaidSo, event_said, opening_said}
use Rattle.overtaking_laws.specs.Overtaking.{overtaken}
use Rattle.overtaking_laws.specs.StaleRuns.{StaleStep, ReachesStale, with_words}
use Rattle.overtaking_laws.proofs.Carrying.{IsCarried, IsCarriedStale, stale_carried_from}
use Rattle.overtaking_laws.proofs.Overtaken.{same_weight, each_queued}

module _ {C A : Type 0} (n : ℕ) (w : WorldView C A) (q : ℕ) (before : List Parcel) (parcel : Parcel) (after : List Parcel)
    (queued : slice_get w.queues q ≡ Some (before ++ parcel ∷ after)) where
  abbrev now : WorldView C A
  now = overtaken w q before parcel after

  pub sound_still : Sound n w → Sound n now
  sound_still s =
      record {
        agrees = record {
          measured = s.agrees.measured;
          numbered = s.agrees.numbered;
          counted = s.agrees.counted;
          places = s.agrees.places;
          pes = s.agrees.pes;
          queues = each_queued w q before parcel after queued (AgreesOn w.board.database) s.agrees.queues;
        };
        one = λ e lt. same_weight w q before parcel after queued no_letter (by_index (one_at e)) ∙ s.one e lt;
        same_array = s.same_array;
      }

  each_still : (P : ℕ → Progress → Type 0) → HoldsOfEach P w → HoldsOfEach P now
  each_still P h = record { pes = h.pes; queues = each_queued w q before parcel after queued (HoldsIn P) h.queues }

  pub said_still : SaidSo n w → SaidSo n now
  said_still h =
      record {
        sound = sound_still h.sound;
        said = λ e says. each_still (HasFinished e) (h.said e says);
        told = each_still (ToldIn (IsSaid w)) h.told;
        counted = h.counted;
      }

-- ---- where location words become others

module _ {C A : Type 0} (n : ℕ) (w : WorldView C A) (words : List ℕ) where
  sound_relearned : Sound n w → Sound n (with_words w words)
  sound_relearned s =
      record {
        agrees = record {
          measured = s.agrees.measured;
          numbered = s.agrees.numbered;
          counted = s.agrees.counted;
          places = s.agrees.places;
          pes = s.agrees.pes;
          queues = s.agrees.queues;
        };
        one = s.one;
        same_array = s.same_array;
      }

  each_relearned : (P : ℕ → Progress → Type 0) → HoldsOfEach P w → HoldsOfEach P (with_words w words)
  each_relearned P h = record { pes = h.pes; queues = h.queues }

  said_relearned : SaidSo n w → SaidSo n (with_words w words)
  said_relearned h =
      record {
        sound = sound_relearned h.sound;
        said = λ e says. each_relearned (HasFinished e) (h.said e says);
        told = each_relearned (ToldIn (IsSaid w)) h.told;
        counted = h.counted;
      }

-- ---- stale runs

module _ {C A : Type 0} (step : Step C) (pack : C → List ℕ) (unpack : List ℕ → Result (C × ℕ) PupError) (pes : ℕ) (chares : List C) (strategy : Strategy) (some : 1 ≤ pes) where
  abbrev pub Said : WorldView C A → List TraceEntry → Type 0
  Said w trace = SaidSo (length chares) w

  said_carried : IsCarried step pack unpack Said
  said_carried =
      record {
        happens = λ w trace event next h happens. event_said step pack unpack (length chares) w h event next happens;
        overtakes = λ w trace h q before parcel after queued. said_still (length chares) w q before parcel after queued h;
      }

  said_stale : IsCarriedStale step pack unpack Said
  said_stale = record { freely = said_carried; relearns = λ w trace h words. said_relearned (length chares) w words h }

  pub stale_said : (steps : List StaleStep) (last : After C A) → ReachesStale step pack unpack (opening_world pes chares strategy) steps last → SaidSo (length chares) last.0
  stale_said steps last run =
      stale_carried_from step pack unpack Said said_stale (opening_world pes chares strategy) steps last
      (opening_said A pes chares strategy (opening_sound step pack unpack pes chares strategy some)) run
