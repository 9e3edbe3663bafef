-- The snapshot of a decided round has what each element did for the round.
use Rattle.std.proofs.Common.{◌≡◌, ℕ, ◌<◌, ◌≤◌, List, length, Some, sym, subst}
use Rattle.std.specs.Prelude.{Result, Contains, slice_get}
use Rattle.sync_board.specs.Boards.{BoardState, Kept, kept_of}
use Rattle.lb_snapshot.specs.Measured.{Taken}
use Rattle.chares.specs.declared.trace_entry.TraceEntry.{TraceEntry}
use Rattle.chares.specs.declared.trace_entry.TraceEntry.TheVariants.{Decided}
use Rattle.chares.specs.Elements.{IsHistory}
use Rattle.chares.specs.Steps.{Step}
use Rattle.event_laws.specs.Rounds.{IsPhase}
use Rattle.event_laws.proofs.Phases.{phase}
use Rattle.pup_pack.specs.declared.error.PupError.{PupError}
use Rattle.event_laws.specs.Agreement.{IsTakenOf}
use Rattle.event_laws.proofs.Snapshots.{Snapped, run_snaps}
use Rattle.rts_core.specs.declared.event.Event.{Event}
use Rattle.rts_core.specs.Events.{After, Happens}
use Rattle.pe_state.specs.Histories.{HasHistories}
use Rattle.rts_core.specs.Histories.{AreHistories}
use Rattle.rts_core.specs.Runs.{Reaches}
use Rattle.rts_core.specs.Worlds.{WorldView, opening_world}
use Rattle.event_laws.specs.Measured.{Measures}
use Rattle.event_laws.proofs.Rooms.{of_found}
use Rattle.rts_core.proofs.Rooms.{at_place}
use Rattle.sync_board.specs.declared.strategy.Strategy.{Strategy}

module _ {C A : Type 0} (step : Step C) (fits : C → Type 0) (pack : C → List ℕ) (opened : List C) (w : WorldView C A) (snapshot : Taken) (e r : ℕ) where
  pub measures : IsTakenOf w snapshot e r → AreHistories step fits pack opened w → Measures step pack opened w snapshot e r
  measures taken are =
      let held : HasHistories step fits pack opened taken.pe = at_place (HasHistories step fits pack opened) w.pes taken.p taken.pe are.pes taken.at in
      let history : IsHistory step pack opened taken.el = of_found (IsHistory step pack opened) e taken.el taken.pe.room held.room taken.stands in
      by (phase step pack opened taken.el history history.in_order e r taken.load taken.bytes taken.p taken.marked)
    where
      by : (chare : C) × (slice_get opened taken.el.index ≡ Some chare) × (e ≡ taken.el.index)
          × IsPhase step pack (length opened) taken.el.index chare taken.el.journal r taken.load taken.bytes
          → Measures step pack opened w snapshot e r
      by (chare, opens, same, did) =
          record {
            taken = taken;
            chare = chare;
            opens = subst (λ (i : ℕ). slice_get opened i ≡ Some chare) (sym same) opens;
            did = subst (λ (i : ℕ). IsPhase step pack (length opened) i chare taken.el.journal r taken.load taken.bytes) (sym same) did;
          }

module _ {C A : Type 0} (step : Step C) (fits : C → Type 0) (pack : C → List ℕ) (chares : List C) (w : WorldView C A) where
  -- what was measured of each element, of what is kept of a round
  pub all_measured : (b : BoardState A) (r : ℕ) → Snapped (length chares) w b r → AreHistories step fits pack chares w
      → (kept : Kept A) × (kept_of b.rounds r ≡ Some kept) × ((e : ℕ) → e < length chares → Measures step pack chares w kept.0 e r)
  all_measured b r (kept, is, all) are = (kept, is, λ e inside. measures step fits pack chares w kept.0 e r (all e inside) are)

module _ {C A : Type 0} (step : Step C) (fits : C → Type 0) (pack : C → List ℕ) (unpack : List ℕ → Result (C × ℕ) PupError) (pes : ℕ)
    (chares : List C) (strategy : Strategy) (some : 1 ≤ pes) where
  -- where a round is decided
  pub measured : (events : List Event) (w : WorldView C A) (trace : List TraceEntry) (event : Event) (next : After C A) (r : ℕ)
      → Reaches step pack unpack (opening_world pes chares strategy) events (w, trace) → AreHistories step fits pack chares w
      → Happens step pack unpack w event next → Contains next.1 (Decided r)
      → (kept : Kept A) × (kept_of next.0.board.rounds r ≡ Some kept) × ((e : ℕ) → e < length chares → Measures step pack chares w kept.0 e r)
  measured events w trace event next r run are happens there =
      all_measured step fits pack chares w next.0.board r (run_snaps step pack unpack pes chares strategy some events w trace event next r run happens there) are
