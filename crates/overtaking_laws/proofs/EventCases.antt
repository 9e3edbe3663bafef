-- What an event leads to, case by case: nothing, the step of its PE, or a decision; and that only flushes and deliveries change queues.
use Rattle.std.proofs.Common.{◌≡◌, ℕ, List, [], Option, Some, None, Result, refl, sym, subst}
use Rattle.std.specs.Prelude.{MatchOption, slice_get}
use Rattle.std.specs.Option.{option_and_then}
use Rattle.sync_board.specs.Boards.{BoardState}
use Rattle.chares.specs.declared.trace_entry.TraceEntry.{TraceEntry}
use Rattle.chares.specs.Steps.{Step}
use Rattle.pup_pack.specs.declared.error.PupError.{PupError}
use Rattle.pe_state.specs.Pes.{PeView}
use Rattle.rts_core.specs.declared.event.Event.{Event}
use Rattle.rts_core.specs.declared.event.Event.TheVariants.{Start, Look, Flush, Deliver, Act, Report, Decide, Depart, Resume}
use Rattle.rts_core.specs.Events.{After, LocalView, Happens, MayDecide, local_view, with_local, local_step, or_nothing, enabled, pe_of, look_event, report_event, start_event, depart_event, resume_event, act_event}
use Rattle.rts_core.specs.Worlds.{WorldView}
use Rattle.event_laws.proofs.AgreeingEvents.{then_so}
use Rattle.overtaking_laws.specs.StampedRuns.{KeepsQueues}

module _ {C A : Type 0} (step : Step C) (pack : C → List ℕ) (unpack : List ℕ → Result (C × ℕ) PupError) where
  -- something holds of what an event leads to in each case
  pub record EachCase (w : WorldView C A) (event : Event) (Q : After C A → Type 0) : Type 0 where
    pub nothing : Q (w, [])
    pub turn : (p : ℕ) (pe : PeView C) → pe_of event ≡ Some p → slice_get w.pes p ≡ Some pe → (after : LocalView C A × List TraceEntry)
        → local_step step pack unpack event (local_view w pe) ≡ Some after → Q (with_local w p after.0, after.1)
    pub decides : (board : BoardState A) (rs : List TraceEntry) → pe_of event ≡ None → Q (record w { board = board }, rs)

  module _ (w : WorldView C A) (event : Event) (Q : After C A → Type 0) (each : EachCase w event Q) where
    bound : {X : Type 0} (o : Option X) (f : X → Option (After C A)) → ((x : X) → o ≡ Some x → Q (or_nothing w (f x))) → Q (or_nothing w (option_and_then f o))
    bound None f k = each.nothing
    bound (Some x) f k = k x refl

    pub case_so : (next : After C A) → Happens step pack unpack w event next → Q next
    case_so next happens = by (pe_of event) refl happens
      where
        by : (o : Option ℕ) → pe_of event ≡ o
            → MatchOption o (MayDecide w.board next.0.board next.1 × (next.0 ≡ record w { board = next.0.board })) (λ p. next ≡ or_nothing w (enabled step pack unpack w event p))
            → Q next
        by None of k = subst (λ (v : WorldView C A). Q (v, next.1)) (sym k.1) (each.decides next.0.board next.1 of)
        by (Some p) of k =
            subst Q (sym k)
            (bound (slice_get w.pes p) (λ pe. option_and_then (λ after. Some (with_local w p after.0, after.1)) (local_step step pack unpack event (local_view w pe)))
            (λ pe at. bound (local_step step pack unpack event (local_view w pe)) (λ after. Some (with_local w p after.0, after.1))
            (λ after is. each.turn p pe of at after is)))

  -- ---- queues

  module _ (d : LocalView C A) where
    abbrev SameQueues : LocalView C A × List TraceEntry → Type 0
    SameQueues a = a.0.queues ≡ d.queues

    local_queues : (event : Event) (a : LocalView C A × List TraceEntry) → KeepsQueues event → local_step step pack unpack event d ≡ Some a → SameQueues a
    local_queues (Start q e) a keeps s = then_so SameQueues (start_event step pack d.pe e) (λ after. (record d { pe = after.0 }, after.1)) a s (λ after is. refl)
    local_queues (Look q) a keeps s = then_so SameQueues (look_event d.pe d.words) (λ after. (record d { pe = after }, [])) a s (λ after is. refl)
    local_queues (Flush q) a keeps s = absurd keeps
    local_queues (Deliver q) a keeps s = absurd keeps
    local_queues (Act q) a keeps s = then_so SameQueues (act_event step pack unpack d.pe) (λ after. (record d { pe = after.0 }, after.1)) a s (λ after is. refl)
    local_queues (Report q) a keeps s = then_so SameQueues (report_event d.pe d.board) (λ after. (record d { pe = after.0; board = after.1 }, after.2)) a s (λ after is. refl)
    local_queues Decide a keeps s = cc
    local_queues (Depart q e) a keeps s = then_so SameQueues (depart_event step pack q d.pe d.words d.board e)
        (λ after. (record d { pe = after.0; words = after.1 }, after.2)) a s (λ after is. refl)
    local_queues (Resume q e) a keeps s = then_so SameQueues (resume_event step pack q d.pe d.board e) (λ after. (record d { pe = after.0 }, after.1)) a s (λ after is. refl)

  pub same_queues : (w : WorldView C A) (event : Event) (next : After C A) → KeepsQueues event → Happens step pack unpack w event next → next.0.queues ≡ w.queues
  same_queues w event next keeps =
      case_so w event (λ (v : After C A). v.0.queues ≡ w.queues)
      (record {
        nothing = refl;
        turn = λ p pe of at after is. local_queues (local_view w pe) event after keeps is;
        decides = λ board rs of. refl;
      })
      next
