-- A world and its board agree after every event, and after every list of events.
use Rattle.std.proofs.Common.{◌≡◌, ℕ, ◌≤◌, List, [], ◌∷◌, length, Option, Some, None, Result, sum_by, arith, refl, sym, ◌∙◌, subst, length-set}
use Rattle.std.specs.Prelude.{All, slice_get, MatchOption}
use Rattle.std.specs.Option.{option_and_then}
use Rattle.std.proofs.lemmas.List.Elements.{All-set}
use Rattle.std.proofs.lemmas.Option.{same_Some}
use Rattle.pup_pack.specs.declared.error.PupError.{PupError}
use Rattle.lb_database.specs.Measuring.{Measured}
use Rattle.chares.specs.declared.trace_entry.TraceEntry.{TraceEntry}
use Rattle.chares.specs.Steps.{Step}
use Rattle.pe_state.specs.Pes.{PeView, Parcel}
use Rattle.rts_core.specs.declared.event.Event.{Event}
use Rattle.rts_core.specs.declared.event.Event.TheVariants.{Start, Look, Flush, Deliver, Act, Report, Decide, Depart, Resume}
use Rattle.rts_core.specs.Events.{After, LocalView, pe_of, local_step, local_view, with_local, or_nothing, enabled, Happens, MayDecide, look_event, flush_event, deliver_event, report_event, start_event, depart_event, resume_event, act_event}
use Rattle.rts_core.specs.Places.{Life}
use Rattle.rts_core.specs.Runs.{Reaches}
use Rattle.rts_core.specs.Worlds.{WorldView, opening_world}
use Rattle.rts_core.proofs.EventSteps.{happens_good}
use Rattle.rts_core.proofs.Listings.{no_letter}
use Rattle.rts_core.proofs.OpeningWeights.{one_at, opened_lives, opened_once, opening_of, opening_weighs}
use Rattle.rts_core.proofs.RunLaws.{by_index, Kept, step_keeps}
use Rattle.rts_core.proofs.WorldSteps.{AreOf, Numbered}
use Rattle.rts_core.proofs.Rooms.{at_place}
use Rattle.event_laws.specs.Agreement.{AgreesOn, AgreesAt, Agrees}
use Rattle.event_laws.proofs.AgreeingHandlers.{start_event_agrees, resume_event_agrees}
use Rattle.event_laws.proofs.AgreeingParcels.{look_event_agrees, flush_event_agrees, deliver_event_agrees, act_event_agrees, depart_event_agrees}
use Rattle.event_laws.proofs.ReportEvent.{OnePlace, report_event_agrees}
use Rattle.event_laws.proofs.Deciding.{may_decide_agrees}
use Rattle.event_laws.proofs.AgreeingOpenings.{opening_agrees}
use Rattle.sync_board.specs.declared.strategy.Strategy.{Strategy}

-- what follows where something is present
pub then_so : {X Y : Type 0} (G : Y → Type 0) (o : Option X) (f : X → Y) (a : Y) → option_and_then (λ x. Some (f x)) o ≡ Some a → ((x : X) → o ≡ Some x → G (f x)) → G a
then_so G None f a h k = cc
then_so G (Some x) f a h k = subst G (same_Some (f x) a h) (k x refl)

module _ {C A : Type 0} (step : Step C) (pack : C → List ℕ) (unpack : List ℕ → Result (C × ℕ) PupError) (n : ℕ) (w : WorldView C A) (h : Agrees n w) (one : OnePlace n w) where
  module _ (p : ℕ) (pe : PeView C) (at : slice_get w.pes p ≡ Some pe) where
    abbrev pub m : Measured
    m = w.board.database

    here : AgreesAt m pe
    here = at_place (AgreesAt m) w.pes p pe h.pes at

    -- what is to be shown of what the PE does in an event
    abbrev pub Good : LocalView C A × List TraceEntry → Type 0
    Good a = Numbered (with_local w p a.0) → Agrees n (with_local w p a.0)

    -- a step that leaves the board as it is
    quiet : (pe' : PeView C) (queues : List (List Parcel)) (words : List ℕ) (reports : List TraceEntry) → AgreesAt m pe'
        → All (All (AgreesOn m)) queues → Good (record { pe = pe'; queues = queues; words = words; board = w.board }, reports)
    quiet pe' queues words reports agrees all numbered =
        record {
          measured = h.measured;
          numbered = h.numbered;
          counted = length-set {A = PeView C} w.pes p pe' ∙ h.counted;
          places = numbered;
          pes = All-set (AgreesAt m) w.pes p pe' agrees h.pes;
          queues = all;
        }

    local_agrees : (event : Event) (a : LocalView C A × List TraceEntry) → local_step step pack unpack event (local_view w pe) ≡ Some a → Good a
    local_agrees (Start q e) a s =
        then_so Good (start_event step pack pe e) (λ after. (record (local_view w pe) { pe = after.0 }, after.1)) a s
        (λ after is. quiet after.0 w.queues w.words after.1 (start_event_agrees step pack m pe e after here is) h.queues)
    local_agrees (Look q) a s =
        then_so Good (look_event pe w.words) (λ after. (record (local_view w pe) { pe = after }, [])) a s
        (λ after is. quiet after w.queues w.words [] (look_event_agrees m pe w.words after here is) h.queues)
    local_agrees (Flush q) a s =
        then_so Good (flush_event pe w.queues) (λ after. (record (local_view w pe) { pe = after.0; queues = after.1 }, [])) a s
        (λ after is. let both = flush_event_agrees m pe w.queues after here h.queues is in quiet after.0 after.1 w.words [] both.0 both.1)
    local_agrees (Deliver q) a s =
        then_so Good (deliver_event pe w.queues q) (λ after. (record (local_view w pe) { pe = after.0; queues = after.1 }, [])) a s
        (λ after is. let both = deliver_event_agrees m pe w.queues q after here h.queues is in quiet after.0 after.1 w.words [] both.0 both.1)
    local_agrees (Act q) a s =
        then_so Good (act_event step pack unpack pe) (λ after. (record (local_view w pe) { pe = after.0 }, after.1)) a s
        (λ after is. quiet after.0 w.queues w.words after.1 (act_event_agrees step pack unpack m pe here after is) h.queues)
    local_agrees (Report q) a s =
        then_so Good (report_event pe w.board) (λ after. (record (local_view w pe) { pe = after.0; board = after.1 }, after.2)) a s
        (λ after is. report_event_agrees n w p pe h one at after is)
    local_agrees Decide a s = cc
    local_agrees (Depart q e) a s =
        then_so Good (depart_event step pack q pe w.words w.board e) (λ after. (record (local_view w pe) { pe = after.0; words = after.1 }, after.2)) a s
        (λ after is. quiet after.0 w.queues after.1 after.2 (depart_event_agrees step pack q pe w.words w.board e after h.numbered here is) h.queues)
    local_agrees (Resume q e) a s =
        then_so Good (resume_event step pack q pe w.board e) (λ after. (record (local_view w pe) { pe = after.0 }, after.1)) a s
        (λ after is. quiet after.0 w.queues w.words after.1 (resume_event_agrees step pack q pe w.board e after h.numbered here is) h.queues)

  abbrev pub KeepsAgreement : After C A → Type 0
  KeepsAgreement a = Numbered a.0 → Agrees n a.0

  bound : {X : Type 0} (o : Option X) (f : X → Option (After C A)) → ((x : X) → o ≡ Some x → KeepsAgreement (or_nothing w (f x)))
      → KeepsAgreement (or_nothing w (option_and_then f o))
  bound None f k = λ numbered. h
  bound (Some x) f k = k x refl

  enabled_agrees : (event : Event) (p : ℕ) → KeepsAgreement (or_nothing w (enabled step pack unpack w event p))
  enabled_agrees event p =
      bound (slice_get w.pes p) (λ pe. option_and_then (λ after. Some (with_local w p after.0, after.1)) (local_step step pack unpack event (local_view w pe)))
      (λ pe at. bound (local_step step pack unpack event (local_view w pe)) (λ after. Some (with_local w p after.0, after.1))
      (λ after s. local_agrees p pe at event after s))

  -- after an event
  pub event_agrees : (event : Event) (next : After C A) → AreOf n w → Happens step pack unpack w event next → Agrees n next.0
  event_agrees event next are happens = by (pe_of event) happens
    where
      numbered : Numbered next.0
      numbered = (happens_good step pack unpack n w are event next happens).same_numbers h.places

      by : (o : Option ℕ)
          → MatchOption o (MayDecide w.board next.0.board next.1 × (next.0 ≡ record w { board = next.0.board })) (λ p. next ≡ or_nothing w (enabled step pack unpack w event p))
          → Agrees n next.0
      by None d = subst (Agrees n) (sym d.1) (may_decide_agrees n w h next.0.board next.1 d.0)
      by (Some p) e = subst KeepsAgreement (sym e) (enabled_agrees event p) numbered

-- ---- lists of events

-- what a run carries on
pub record Sound {C A : Type 0} (n : ℕ) (w : WorldView C A) : Type 0 where
  pub agrees : Agrees n w
  pub one : OnePlace n w
  pub same_array : AreOf n w

module _ {C A : Type 0} (step : Step C) (pack : C → List ℕ) (unpack : List ℕ → Result (C × ℕ) PupError) where
  pub event_sound : (n : ℕ) (w : WorldView C A) (event : Event) (next : After C A) → Sound n w → Happens step pack unpack w event next → Sound n next.0
  event_sound n w event next s happens =
      let k : Kept n w next.0 next.1 = step_keeps step n w next.0 next.1 (happens_good step pack unpack n w s.same_array event next happens) in
      record {
        agrees = event_agrees step pack unpack n w s.agrees s.one event next s.same_array happens;
        one = λ e lt. k.stands (one_at e) ∙ s.one e lt;
        same_array = k.same_array;
      }

  pub run_sound : (n : ℕ) (w : WorldView C A) (events : List Event) (last : After C A) → Sound n w → Reaches step pack unpack w events last → Sound n last.0
  run_sound n w [] last s run = subst (λ (v : After C A). Sound n v.0) (sym run) s
  run_sound n w (event ∷ events) last s (first, rest, happens, leads, is) =
      subst (λ (v : After C A). Sound n v.0) (sym is)
      (run_sound n first.0 events rest (event_sound n w event first s happens) leads)

  module _ (pes : ℕ) (chares : List C) (strategy : Strategy) (some : 1 ≤ pes) where
    pub opening_sound : Sound (length chares) (opening_world {A = A} pes chares strategy)
    opening_sound =
        record {
          agrees = opening_agrees A pes chares strategy some;
          one = λ e lt.
              let b = opening_weighs A pes chares strategy some no_letter (by_index (one_at e)) in
              let c : sum_by (λ (x : Life). one_at e x.0) (opened_lives 0 chares) ≡ 1 = opened_once e 0 chares (omega arith) (omega (arith, lt)) in
              omega (arith, b, c);
          same_array = opening_of A pes chares strategy some;
        }

    pub run_agrees : (events : List Event) (last : After C A) → Reaches step pack unpack (opening_world pes chares strategy) events last → Agrees (length chares) last.0
    run_agrees events last run = (run_sound (length chares) (opening_world pes chares strategy) events last opening_sound run).agrees
