-- From a world to the one that a list of events reaches, the journals gain the resumptions that are in the trace.
use Rattle.std.proofs.Common.{◌≡◌, ℕ, ◌+◌, List, [], ◌∷◌, ◌++◌, Some, arith, refl, sym, subst}
use Rattle.std.specs.Prelude.{Result, slice_get}
use Rattle.chares.specs.declared.trace_entry.TraceEntry.{TraceEntry}
use Rattle.chares.specs.declared.trace_entry.TraceEntry.TheVariants.{Decided}
use Rattle.chares.specs.Steps.{Step}
use Rattle.pup_pack.specs.declared.error.PupError.{PupError}
use Rattle.pe_state.specs.Pes.{PeView}
use Rattle.rts_core.specs.declared.event.Event.{Event}
use Rattle.rts_core.specs.Accounts.{times}
use Rattle.rts_core.specs.Events.{After, LocalView, Happens, local_view, with_local}
use Rattle.rts_core.specs.Runs.{Reaches}
use Rattle.rts_core.specs.Worlds.{WorldView}
use Rattle.rts_core.proofs.EachElement.{event_kept}
use Rattle.rts_core.proofs.Listings.{no_letter}
use Rattle.rts_core.proofs.Rooms.{at_place}
use Rattle.rts_core.proofs.Turns.{each_map, happens_so}
use Rattle.rts_core.proofs.Weights.{of_pe, of_world}
use Rattle.rts_core.proofs.WorldSteps.{sum_at}
use Rattle.event_laws.specs.Barrier.{is_resumed}
use Rattle.event_laws.proofs.OrderedRounds.{FitsInOrder, PackedInOrder, Ordered, AllOrdered, order_kept}
use Rattle.event_laws.proofs.Resumptions.{resumed_in, Gains, each_gains}
use Rattle.event_laws.proofs.Tallies.{times-append}

-- from a world to another the journals gain the resumptions of the trace entries
abbrev pub WorldGains : {C A : Type 0} → WorldView C A → After C A → Type 0
WorldGains w a = (e r : ℕ) → of_world no_letter (resumed_in e r) a.0 ≡ of_world no_letter (resumed_in e r) w + times (is_resumed e r) a.1

pub gains_none : {C A : Type 0} (w : WorldView C A) → WorldGains w (w, [])
gains_none w e r = let z : times (is_resumed e r) [] ≡ 0 = refl in omega (arith, z)

pub gains_join : {C A : Type 0} (w : WorldView C A) (first rest : After C A) → WorldGains w first → WorldGains first.0 rest → WorldGains w (rest.0, first.1 ++ rest.1)
gains_join w first rest a b e r =
    let x = a e r in
    let y = b e r in
    let z = times-append (is_resumed e r) first.1 rest.1 in
    omega (arith, x, y, z)

module _ {C A : Type 0} (step : Step C) (pack : C → List ℕ) (unpack : List ℕ → Result (C × ℕ) PupError) where
  module _ (w : WorldView C A) (h : AllOrdered w) where
    turn_gains : (p : ℕ) (pe : PeView C) → slice_get w.pes p ≡ Some pe → (a : LocalView C A × List TraceEntry) → Gains (local_view w pe) a → WorldGains w (with_local w p a.0, a.1)
    turn_gains p pe at a gains e r =
        let x = gains e r in
        let y = sum_at (of_pe no_letter (resumed_in e r)) w.pes p pe a.0.pe at in
        omega (arith, x, y)

    pub event_gains : (event : Event) (next : After C A) → Happens step pack unpack w event next → WorldGains w next
    event_gains event next happens =
        happens_so step pack unpack w (WorldGains w)
        (record {
          same = gains_none w;
          turn = λ p pe at. each_map step pack p (local_view w pe) (Gains (local_view w pe)) (λ a. WorldGains w (with_local w p a.0, a.1)) (turn_gains p pe at)
              (each_gains step pack p (local_view w pe) (at_place Ordered w.pes p pe h.pes at));
          decides = λ board d e r. let z : times (is_resumed e r) (Decided w.board.database.round ∷ []) ≡ 0 = refl in omega (arith, z);
        })
        event next happens

  pub run_gains : (w : WorldView C A) (events : List Event) (last : After C A) → AllOrdered w → Reaches step pack unpack w events last → WorldGains w last
  run_gains w [] last h run = subst (λ (v : After C A). WorldGains w v) (sym run) (gains_none w)
  run_gains w (event ∷ events) last h (first, rest, happens, leads, is) =
      let a : WorldGains w first = event_gains w h event first happens in
      let b : WorldGains first.0 rest = run_gains first.0 events rest
      (event_kept step pack FitsInOrder PackedInOrder (order_kept step pack) unpack w event first h happens) leads in
      subst (λ (v : After C A). WorldGains w v) (sym is) (gains_join w first rest a b)
