-- The chase law of every free run.
use Rattle.std.proofs.Common.{ℕ, ◌≤◌, List, [], length, arith, refl, ◌∙◌, subst, append-nil}
use Rattle.std.specs.Prelude.{Result}
use Rattle.sync_board.specs.declared.strategy.Strategy.{Strategy}
use Rattle.chares.specs.declared.trace_entry.TraceEntry.{TraceEntry}
use Rattle.chares.specs.Steps.{Step}
use Rattle.pup_pack.specs.declared.error.PupError.{PupError}
use Rattle.rts_core.specs.Events.{After}
use Rattle.rts_core.specs.Worlds.{WorldView, opening_world}
use Rattle.rts_core.proofs.RunLaws.{Kept, kept_join}
use Rattle.event_laws.specs.Chase.{IsChase}
use Rattle.event_laws.proofs.Chased.{IsRun, reached_run, run_chase, run_step}
use Rattle.event_laws.proofs.Lags.{strays}
use Rattle.event_laws.proofs.Moves.{waits_at, in_room}
use Rattle.event_laws.proofs.Sites.{no_letters, no_elements}
use Rattle.overtaking_laws.specs.FreeRuns.{FreeStep, ReachesFreely}
use Rattle.overtaking_laws.specs.Overtaking.{overtaken}
use Rattle.overtaking_laws.proofs.Carrying.{IsCarried, carried_from}
use Rattle.overtaking_laws.proofs.StaleAccounts.{kept_still}
use Rattle.overtaking_laws.proofs.FreePlaces.{placed_still}
use Rattle.overtaking_laws.proofs.Overtaken.{same_sites}

module _ {C A : Type 0} (step : Step C) (pack : C → List ℕ) (unpack : List ℕ → Result (C × ℕ) PupError) (pes : ℕ) (chares : List C) (strategy : Strategy) (some : 1 ≤ pes) where
  abbrev first : WorldView C A
  first = opening_world pes chares strategy

  abbrev Runs : WorldView C A → List TraceEntry → Type 0
  Runs w trace = IsRun step pack unpack pes chares strategy some w trace

  run_carried : IsCarried step pack unpack Runs
  run_carried =
      record {
        happens = λ w trace event next h happens. run_step step pack unpack pes chares strategy some w trace event next h happens;
        overtakes = λ w trace h q before parcel after queued.
            record {
              placed = placed_still (length chares) w q before parcel after queued h.placed;
              kept = subst (λ (v : List TraceEntry). Kept (length chares) first (overtaken w q before parcel after) v) (append-nil trace)
                  (kept_join (length chares) first w (overtaken w q before parcel after) trace [] h.kept
                  (kept_still w q before parcel after queued (length chares) h.kept.same_array));
              chasing = record {
                lag = same_sites w q before parcel after queued (strays w.words trace) no_elements ∙ h.chasing.lag;
                away = λ p e le.
                    let a = same_sites w q before parcel after queued (waits_at p e) no_elements in
                    same_sites w q before parcel after queued no_letters (in_room p e) ∙ h.chasing.away p e (omega (arith, a, le));
                hops = h.chasing.hops;
                unposted = h.chasing.unposted;
              };
            };
      }

  free_run : (steps : List FreeStep) (last : After C A) → ReachesFreely step pack unpack first steps last → Runs last.0 last.1
  free_run steps last run = carried_from step pack unpack Runs run_carried first steps last (reached_run step pack unpack pes chares strategy some [] (first, []) refl) run

  pub free_chase : (steps : List FreeStep) (last : After C A) → ReachesFreely step pack unpack first steps last → IsChase last.0 last.1
  free_chase steps last run = run_chase step pack unpack pes chares strategy some last.0 last.1 (free_run steps last run)
