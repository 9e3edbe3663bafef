-- An element is nowhere twice in any stale run: each is there once, under its own index, whatever the location words are.
use Rattle.std.proofs.Common.{◌≡◌, ℕ, ◌≤◌, List, arith, sum_by}
use Rattle.std.specs.Prelude.{Result}
use Rattle.sync_board.specs.declared.strategy.Strategy.{Strategy}
use Rattle.chares.specs.Steps.{Step}
use Rattle.pup_pack.specs.declared.error.PupError.{PupError}
use Rattle.rts_core.specs.Events.{After}
use Rattle.rts_core.specs.Worlds.{WorldView, opening_world}
use Rattle.rts_core.proofs.EachElement.{PeKept, WorldKept}
use Rattle.rts_core.proofs.Listings.{no_letter}
use Rattle.rts_core.proofs.OpeningWeights.{opened_lives, opening_weighs, one_at}
use Rattle.rts_core.proofs.Rooms.{at_place, each_found}
use Rattle.rts_core.proofs.RunLaws.{by_index}
use Rattle.rts_core.proofs.Weights.{of_world}
use Rattle.event_laws.specs.Bound.{StandsOn, StandAlone}
use Rattle.event_laws.proofs.LocationWords.{at_index}
use Rattle.event_laws.proofs.NowhereElse.{stand_alone}
use Rattle.event_laws.proofs.OwnJournals.{FitsOwn, PackedOwn}
use Rattle.event_laws.proofs.PlainWeights.{world_plain}
use Rattle.event_laws.proofs.ResumedOnce.{opened_once_each}
use Rattle.event_laws.proofs.Sites.{no_letters, world_at}
use Rattle.overtaking_laws.specs.StaleRuns.{StaleStep, ReachesStale}
use Rattle.overtaking_laws.proofs.StaleAccounts.{stale_keeps}
use Rattle.overtaking_laws.proofs.StaleJournals.{stale_owned}

-- an element on a PE is beside its own index
own_index : {C A : Type 0} (w : WorldView C A) → WorldKept (FitsOwn {C = C}) PackedOwn w → (e p : ℕ) (on : StandsOn w e p) → on.1.index ≡ e
own_index w own e p (pe, el, at, is) = (each_found FitsOwn e pe.room el (at_place (PeKept FitsOwn PackedOwn) w.pes p pe own.pes at).room is).0

module _ {C A : Type 0} (step : Step C) (pack : C → List ℕ) (unpack : List ℕ → Result (C × ℕ) PupError) (pes : ℕ) (chares : List C) (strategy : Strategy) (some : 1 ≤ pes) where
  abbrev first : WorldView C A
  first = opening_world pes chares strategy

  nowhere_twice : (steps : List StaleStep) (last : After C A) → ReachesStale step pack unpack first steps last → (e : ℕ) → world_at no_letters (at_index e) last.0 ≤ 1
  nowhere_twice steps last run e =
      let a : of_world no_letter (by_index (one_at e)) last.0 ≡ of_world no_letter (by_index (one_at e)) first = (stale_keeps
      step pack unpack pes chares strategy some steps last run).stands (one_at e) in
      let b = opening_weighs A pes chares strategy some no_letter (by_index (one_at e)) in
      let c : sum_by (by_index (one_at e)) (opened_lives 0 chares) ≤ 1 = opened_once_each e 0 chares in
      let d : world_at no_letters (at_index e) last.0 ≡ of_world no_letter (by_index (one_at e)) last.0 = world_plain (λ x. 0) (one_at e) last.0 in
      omega (arith, a, b, c, d)

  pub stale_alone : (steps : List StaleStep) (last : After C A) → ReachesStale step pack unpack first steps last → StandAlone last.0
  stale_alone steps last run =
      stand_alone last.0 (own_index last.0 (stale_owned step pack unpack pes chares strategy steps last run)) (nowhere_twice steps last run)
