-- The barrier of every list of events.
use Rattle.std.proofs.Common.{◌≡◌, ℕ, ◌<◌, ◌≤◌, ◌⊎◌, inl, inr, List, [], ◌∷◌, ◌++◌, length, get_or, replicate, None, arith, refl, sym, subst}
use Rattle.std.specs.Prelude.{Result, Contains, IsSome}
use Rattle.std.proofs.lemmas.List.{length-replicate, get_or-replicate, append_assoc}
use Rattle.chares.specs.declared.trace_entry.TraceEntry.{TraceEntry}
use Rattle.chares.specs.declared.trace_entry.TraceEntry.TheVariants.{Resumed, Decided}
use Rattle.chares.specs.Steps.{Step}
use Rattle.sync_board.specs.Boards.{BoardState, new_board}
use Rattle.pup_pack.specs.declared.error.PupError.{PupError}
use Rattle.pe_state.specs.Pes.{PeView}
use Rattle.rts_core.specs.declared.event.Event.{Event}
use Rattle.rts_core.specs.Accounts.{times}
use Rattle.rts_core.specs.Events.{After, LocalView, Happens, local_view, with_local}
use Rattle.rts_core.specs.Runs.{Reaches}
use Rattle.rts_core.specs.Worlds.{WorldView, opening_world}
use Rattle.event_laws.specs.Agreement.{Agrees}
use Rattle.event_laws.proofs.AgreeingEvents.{Sound, event_sound, run_sound, opening_sound}
use Rattle.event_laws.specs.Barrier.{IsBarrier, StandsInItsPlace, is_resumed}
use Rattle.rts_core.specs.Orders.{AreInOrder}
use Rattle.event_laws.proofs.BoardTraces.{Tells, Keeps, tells_kept, tells_same, tells_taken, tells_decided, decided_at_most_once, unlike_decided, none_there}
use Rattle.event_laws.proofs.ResumedOnce.{resumed_once}
use Rattle.event_laws.proofs.OrderedRounds.{FitsInOrder, PackedInOrder, order_kept, are_in_order}
use Rattle.rts_core.proofs.EachElement.{run_kept, opening_kept}
use Rattle.event_laws.proofs.Stands.{Turned, Takes, each_turned, stands_at}
use Rattle.event_laws.proofs.Tallies.{only_member, no_member}
use Rattle.rts_core.proofs.Turns.{each_map, happens_so}
use Rattle.sync_board.specs.declared.strategy.Strategy.{Strategy}

-- a board of which the trace tells, and no element that was resumed twice
pub told_barrier : {A : Type 0} (n : ℕ) (b : BoardState A) (trace : List TraceEntry) → Tells n b trace → ((e r : ℕ) → times (is_resumed e r) trace ≤ 1) → IsBarrier n trace
told_barrier n b trace t once =
    record {
      all_synced = λ before after e r h first. (t.barred before after e r h first).synced;
      decided_once = λ before after e r h first. (t.barred before after e r h first).decided;
      once_decided = decided_at_most_once n b trace t;
      resumed_once = once;
    }

module _ {C A : Type 0} (step : Step C) (pack : C → List ℕ) (unpack : List ℕ → Result (C × ℕ) PupError) where
  -- an event
  module _ (n : ℕ) (w : WorldView C A) (trace : List TraceEntry) (t : Tells n w.board trace) where
    turn_tells : (p : ℕ) (pe : PeView C) (a : LocalView C A × List TraceEntry) → Turned p (local_view w pe) a → Tells n a.0.board (trace ++ a.1)
    turn_tells p pe a turned = by turned.board
      where
        by : Keeps w.board a.0.board a.1 ⊎ Takes w.board a.0.board a.1 → Tells n a.0.board (trace ++ a.1)
        by (inl k) = tells_kept n w.board a.0.board trace a.1 t k
        by (inr k) = subst (λ (v : List TraceEntry). Tells n a.0.board (trace ++ v)) (sym k.told) (tells_taken n w.board a.0.board trace k.note t k.taken)

    pub event_tells : (event : Event) (next : After C A) → Happens step pack unpack w event next → Tells n next.0.board (trace ++ next.1)
    event_tells event next happens =
        happens_so step pack unpack w (λ (v : After C A). Tells n v.0.board (trace ++ v.1))
        (record {
          same = tells_same n w.board trace t;
          turn = λ p pe at. each_map step pack p (local_view w pe) (Turned p (local_view w pe)) (λ a. Tells n a.0.board (trace ++ a.1))
              (turn_tells p pe) (each_turned step pack p (local_view w pe));
          decides = λ board d. tells_decided n w.board board trace t d;
        })
        event next happens

  pub run_tells : (n : ℕ) (w : WorldView C A) (trace : List TraceEntry) (events : List Event) (last : After C A) → Tells n w.board trace
      → Reaches step pack unpack w events last → Tells n last.0.board (trace ++ last.1)
  run_tells n w trace [] last t run = subst (λ (v : After C A). Tells n v.0.board (trace ++ v.1)) (sym run) (tells_same n w.board trace t)
  run_tells n w trace (event ∷ events) last t (first, rest, happens, leads, is) =
      let a : Tells n first.0.board (trace ++ first.1) = event_tells n w trace t event first happens in
      let b : Tells n rest.0.board ((trace ++ first.1) ++ rest.1) = run_tells n first.0 (trace ++ first.1) events rest a leads in
      subst (λ (v : After C A). Tells n v.0.board (trace ++ v.1)) (sym is)
      (subst (λ (v : List TraceEntry). Tells n rest.0.board v) (append_assoc trace first.1 rest.1) b)

  -- a new board
  pub opening_tells : (n pes : ℕ) (strategy : Strategy) → Tells {A = A} n (new_board n pes strategy) []
  opening_tells n pes strategy =
      record {
        counted = length-replicate n 0;
        reports_counted = length-replicate n None;
        numbered = refl;
        never_zero = refl;
        decided = λ r some lt. absurd (omega (arith, some, lt));
        undecided = λ r le. refl;
        synced = λ r x some lt inside. absurd (omega (arith, some, lt));
        reported = λ x inside is. absurd (nothing x inside is);
        barred = λ before after e r h some. absurd (no_split before after (Resumed e r) h);
      }
    where
      nothing : (x : ℕ) → x < n → IsSome {T = ℕ × ℕ} (get_or (replicate n None) x None) → ⊥
      nothing x inside is =
          let none : get_or (replicate n None) x None ≡ None = get_or-replicate n x None None inside in
          none_there (get_or (replicate n None) x None) none is

      no_split : (before after : List TraceEntry) (x : TraceEntry) → [] ≡ before ++ x ∷ after → ⊥
      no_split [] after x h = cc
      no_split (y ∷ before) after x h = cc

  -- the barrier holds of every list of events
  pub barrier : (pes : ℕ) (chares : List C) (strategy : Strategy) (events : List Event) (last : After C A) → 1 ≤ pes
      → Reaches step pack unpack (opening_world pes chares strategy) events last → IsBarrier (length chares) last.1
  barrier pes chares strategy events last some run =
      let t : Tells (length chares) last.0.board last.1 = run_tells (length chares) (opening_world pes chares strategy) [] events last
      (opening_tells (length chares) pes strategy) run in
      told_barrier (length chares) last.0.board last.1 t (λ e r. resumed_once e r pes chares strategy some step pack unpack events last run)

  -- the rounds of all elements come in order
  pub in_order : (pes : ℕ) (chares : List C) (strategy : Strategy) (events : List Event) (last : After C A)
      → Reaches step pack unpack (opening_world pes chares strategy) events last → AreInOrder last.0
  in_order pes chares strategy events last run = are_in_order last.0
      (run_kept step pack FitsInOrder PackedInOrder (order_kept step pack) unpack (opening_world pes chares strategy) events last
      (opening_kept step pack FitsInOrder PackedInOrder (order_kept step pack) A pes chares strategy) run)

  -- and an element that an event resumes for a round is at its place
  pub sound_stands : (n : ℕ) (w : WorldView C A) (event : Event) (next : After C A) (e r : ℕ) → Sound n w → Happens step pack unpack w event next
      → Contains next.1 (Resumed e r) → 1 ≤ r → StandsInItsPlace w e r × StandsInItsPlace next.0 e r
  sound_stands n w event next e r sound happens there first =
      happens_so step pack unpack w (λ (v : After C A). Agrees n v.0 → Contains v.1 (Resumed e r) → StandsInItsPlace w e r × StandsInItsPlace v.0 e r)
      (record {
        same = λ agrees k. absurd (no_member (Resumed e r) k);
        turn = λ p pe at. each_map step pack p (local_view w pe) (Turned p (local_view w pe))
            (λ a. Agrees n (with_local w p a.0) → Contains a.1 (Resumed e r) → StandsInItsPlace w e r × StandsInItsPlace (with_local w p a.0) e r)
            (λ a turned later k. stands_at n w p pe a.0 e r sound.agrees later at (turned.stands e r first k))
            (each_turned step pack p (local_view w pe));
        decides = λ board d agrees k. absurd (unlike_decided w.board.database.round e r (only_member (Decided w.board.database.round) (Resumed e r) k));
      })
      event next happens (event_sound step pack unpack n w event next sound happens).agrees there

  pub stands : (pes : ℕ) (chares : List C) (strategy : Strategy) (events : List Event) (w : WorldView C A) (trace : List TraceEntry) (event : Event) (next : After C A) (e r : ℕ)
      → 1 ≤ pes → Reaches step pack unpack (opening_world pes chares strategy) events (w, trace) → Happens step pack unpack w event next
      → Contains next.1 (Resumed e r) → 1 ≤ r → StandsInItsPlace w e r × StandsInItsPlace next.0 e r
  stands pes chares strategy events w trace event next e r some run happens there first =
      sound_stands (length chares) w event next e r
      (run_sound step pack unpack (length chares) (opening_world pes chares strategy) events (w, trace) (opening_sound step pack unpack pes chares strategy some) run)
      happens there first
