-- The laws of the places of elements, in a world that a list of events leads to.
use Rattle.std.proofs.Common.{◌≡◌, ℕ, ◌≤◌, Some, arith, sym, subst}
use Rattle.std.specs.Prelude.{Result, List, length, slice_get}
use Rattle.chares.specs.Steps.{Step}
use Rattle.pup_pack.specs.declared.error.PupError.{PupError}
use Rattle.rts_core.specs.declared.event.Event.{Event}
use Rattle.rts_core.specs.Events.{After}
use Rattle.rts_core.specs.Runs.{Reaches}
use Rattle.rts_core.specs.Worlds.{WorldView, opening_world}
use Rattle.event_laws.specs.Bound.{IsBoundFor, StandsOn, StandAlone, AreNamed}
use Rattle.event_laws.proofs.BoundWeights.{stands_weighs, bound_weighs}
use Rattle.event_laws.proofs.LocationWords.{misnamed, room_named, bound_named}
use Rattle.event_laws.proofs.NowhereElse.{stand_alone}
use Rattle.event_laws.proofs.Placed.{IsPlaced, at_most_once, opening_placed, run_placed}
use Rattle.event_laws.proofs.Sites.{no_letters, world_at}
use Rattle.event_laws.proofs.Sites.Site.{Bound, Room}
use Rattle.sync_board.specs.declared.strategy.Strategy.{Strategy}

module _ {C A : Type 0} (n : ℕ) (w : WorldView C A) (h : IsPlaced n w) where
  -- an element on a PE is beside its own index, where its location word says
  own_place : (e p : ℕ) (on : StandsOn w e p) → (e ≡ on.1.index) × (slice_get w.words e ≡ Some p)
  own_place e p on =
      let a : misnamed w.words (Room p e) on.1.index ≤ world_at no_letters (misnamed w.words) w = stands_weighs w (misnamed w.words) e p on in
      let k = h.named in
      let r = room_named w.words p e on.1.index (omega (arith, a, k)) in
      (r.0, subst (λ (v : ℕ). slice_get w.words v ≡ Some p) (sym r.0) r.1)

  bound_place : (e p : ℕ) → IsBoundFor w e p → slice_get w.words e ≡ Some p
  bound_place e p b =
      let a : misnamed w.words (Bound p) e ≤ world_at no_letters (misnamed w.words) w = bound_weighs w (misnamed w.words) e p b in
      let k = h.named in
      bound_named w.words p e (omega (arith, a, k))

  pub alone : StandAlone w
  alone = stand_alone w (λ e p on. sym (own_place e p on).0) (at_most_once n w h)

  pub named : AreNamed w
  named = record { standing = λ e p on. (own_place e p on).1; bound = bound_place }

module _ {C A : Type 0} (step : Step C) (pack : C → List ℕ) (unpack : List ℕ → Result (C × ℕ) PupError) (pes : ℕ) (chares : List C) (strategy : Strategy) (some : 1 ≤ pes) where
  -- after every list of events
  pub reached : (events : List Event) (last : After C A) → Reaches step pack unpack (opening_world pes chares strategy) events last → IsPlaced (length chares) last.0
  reached events last run = run_placed step pack unpack (length chares) (opening_world pes chares strategy) events last (opening_placed A pes chares strategy some) run

  pub reached_alone : (events : List Event) (last : After C A) → Reaches step pack unpack (opening_world pes chares strategy) events last → StandAlone last.0
  reached_alone events last run = alone (length chares) last.0 (reached events last run)

  pub reached_named : (events : List Event) (last : After C A) → Reaches step pack unpack (opening_world pes chares strategy) events last → AreNamed last.0
  reached_named events last run = named (length chares) last.0 (reached events last run)
