-- Where the elements are in every free run.
use Rattle.std.proofs.Common.{◌≡◌, ℕ, ◌≤◌, List, ◌∷◌, ◌++◌, length, Some, ◌∙◌}
use Rattle.std.specs.Prelude.{Result, slice_get}
use Rattle.sync_board.specs.declared.strategy.Strategy.{Strategy}
use Rattle.chares.specs.declared.trace_entry.TraceEntry.{TraceEntry}
use Rattle.chares.specs.Steps.{Step}
use Rattle.pup_pack.specs.declared.error.PupError.{PupError}
use Rattle.pe_state.specs.Pes.{Parcel}
use Rattle.rts_core.specs.Events.{After}
use Rattle.rts_core.specs.Worlds.{WorldView, opening_world}
use Rattle.event_laws.proofs.LocationWords.{misnamed, at_index}
use Rattle.event_laws.proofs.Placed.{IsPlaced, opening_placed, placed_step}
use Rattle.event_laws.proofs.Sites.{no_letters}
use Rattle.overtaking_laws.specs.FreeRuns.{FreeStep, ReachesFreely}
use Rattle.overtaking_laws.specs.Overtaking.{overtaken}
use Rattle.overtaking_laws.proofs.Carrying.{IsCarried, carried_from}
use Rattle.overtaking_laws.proofs.Overtaken.{same_sites}

pub placed_still : {C A : Type 0} (n : ℕ) (w : WorldView C A) (q : ℕ) (before : List Parcel) (parcel : Parcel) (after : List Parcel)
    → slice_get w.queues q ≡ Some (before ++ parcel ∷ after) → IsPlaced n w → IsPlaced n (overtaken w q before parcel after)
placed_still n w q before parcel after queued h =
    record {
      named = same_sites w q before parcel after queued no_letters (misnamed w.words) ∙ h.named;
      counted = h.counted;
      once = λ i lt. same_sites w q before parcel after queued no_letters (at_index i) ∙ h.once i lt;
      numbered = h.numbered;
      of = h.of;
    }

module _ {C A : Type 0} (step : Step C) (pack : C → List ℕ) (unpack : List ℕ → Result (C × ℕ) PupError) (pes : ℕ) (chares : List C) (strategy : Strategy) (some : 1 ≤ pes) where
  abbrev pub Placed : WorldView C A → List TraceEntry → Type 0
  Placed w trace = IsPlaced (length chares) w

  placed_carried : IsCarried step pack unpack Placed
  placed_carried =
      record {
        happens = λ w trace event next h happens. placed_step step pack unpack (length chares) w event next h happens;
        overtakes = λ w trace h q before parcel after queued. placed_still (length chares) w q before parcel after queued h;
      }

  pub free_placed : (steps : List FreeStep) (last : After C A) → ReachesFreely step pack unpack (opening_world pes chares strategy) steps last → IsPlaced (length chares) last.0
  free_placed steps last run =
      carried_from step pack unpack Placed placed_carried (opening_world pes chares strategy) steps last (opening_placed A pes chares strategy some) run
