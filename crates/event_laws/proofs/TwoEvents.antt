-- The world after a PE has made two events at once is the one that the events lead to.
use Rattle.std.proofs.Common.{◌≡◌, ℕ, zero, suc, List, [], ◌∷◌, ◌++◌, Option, Some, None, Result, refl, sym, ap, subst, ◌∙◌, append-nil}
use Rattle.std.specs.Prelude.{slice_get, slice_set}
use Rattle.std.specs.Option.{option_and_then}
use Rattle.chares.specs.declared.trace_entry.TraceEntry.{TraceEntry}
use Rattle.chares.specs.Steps.{Step}
use Rattle.pup_pack.specs.declared.error.PupError.{PupError}
use Rattle.pe_state.specs.declared.acted.Acted.TheVariants.{Executed}
use Rattle.pe_state.specs.Pes.{Acting, Item, PeView, Parcel, acted_of, acting, front_address, front_at, front_parcel, gave_up, handed_back, looked, pe_after, received, trace_of, wanted}
use Rattle.rts_core.specs.declared.event.Event.{Event}
use Rattle.rts_core.specs.declared.event.Event.TheVariants.{Act, Deliver, Flush, Look}
use Rattle.rts_core.specs.Events.{Happens, LocalView, enabled, local_step, local_view, or_nothing, with_local}
use Rattle.rts_core.specs.Runs.{Reaches}
use Rattle.rts_core.specs.Worlds.{WorldView}
use Rattle.rts_core.proofs.WorldSteps.{get_set_same}
use Rattle.event_laws.specs.TwoEvents.{Receives, LooksForFront}

-- what is set twice is what was set last
set_twice : {X : Type 0} (xs : List X) (i : ℕ) (x y : X) → slice_set (slice_set xs i x) i y ≡ slice_set xs i y
set_twice [] i x y = refl
set_twice (z ∷ zs) zero x y = refl
set_twice (z ∷ zs) (suc i) x y = ap (λ v. z ∷ v) (set_twice zs i x y)

-- the front of an outbox, with an address
at_front : (q : ℕ) (parcel : Parcel) (xs : List Item) → front_parcel xs ≡ Some parcel → (front_address (front_at q xs) ≡ Some q) × (front_parcel (front_at q xs) ≡ Some parcel)
at_front q parcel [] h = absurd (cc h)
at_front q parcel (x ∷ xs) h = (refl, h)

module _ {C : Type 0} (q : ℕ) (pe : PeView C) (free : pe.hand ≡ None) where
  -- where the hand is empty, what is looked for is the element of the front of the outbox
  looked_front : looked pe q ≡ record pe { outbox = front_at q pe.outbox; kept = None }
  looked_front = rw free refl

  -- and where that is handed back, nothing but the look is left
  returned : (parcel : Parcel) (xs : List Item) → front_parcel xs ≡ Some parcel
      → ◌≡◌ {A = PeView C} (handed_back (gave_up (record pe { outbox = front_at q xs; kept = None })) parcel) (record pe { outbox = front_at q xs; kept = None })
  returned parcel [] h = absurd (cc h)
  returned parcel (x ∷ xs) h = let same : x.parcel ≡ parcel = cc in rw (← same) refl

module _ {C A : Type 0} (step : Step C) (pack : C → List ℕ) (unpack : List ℕ → Result (C × ℕ) PupError) where
  -- one event, and two
  one : (w next : WorldView C A) (event : Event) (trace : List TraceEntry) → Happens step pack unpack w event (next, trace) → Reaches step pack unpack w (event ∷ []) (next, trace)
  one w next event trace happens = ((next, trace), (next, []), happens, refl, ap (λ (t : List TraceEntry). (next, t)) (sym (append-nil trace)))

  two : (w between next : WorldView C A) (first second : Event) (trace : List TraceEntry) → Happens step pack unpack w first (between, [])
      → Happens step pack unpack between second (next, trace) → Reaches step pack unpack w (first ∷ second ∷ []) (next, trace)
  two w between next first second trace happens then = ((between, []), (next, trace), happens, one between next second trace then, refl)

  -- the event of a PE leads to what its step does, where that is enabled
  stepped : (w : WorldView C A) (p : ℕ) (pe : PeView C) → slice_get w.pes p ≡ Some pe → (event : Event) (d : LocalView C A) (entries : List TraceEntry)
      → local_step step pack unpack event (local_view w pe) ≡ Some (d, entries) → (with_local w p d, entries) ≡ or_nothing w (enabled step pack unpack w event p)
  stepped w p pe there event d entries steps =
      subst (λ (o : Option (PeView C)). (with_local w p d, entries) ≡ or_nothing w (option_and_then
      (λ (x : PeView C). option_and_then (λ (after : LocalView C A × List TraceEntry). Some (with_local w p after.0, after.1))
      (local_step step pack unpack event (local_view w x))) o)) (sym there)
      (subst (λ (o : Option (LocalView C A × List TraceEntry)). (with_local w p d, entries) ≡ or_nothing w
      (option_and_then (λ (after : LocalView C A × List TraceEntry). Some (with_local w p after.0, after.1)) o)) (sym steps) refl)

  module _ (w : WorldView C A) (p : ℕ) (pe : PeView C) where
    -- the world with these queues, and with this for the PE
    abbrev with_pe : List (List Parcel) → PeView C → WorldView C A
    with_pe queues next = record w { pes = slice_set w.pes p next; queues = queues }

    delivery : (parcel : Parcel) (rest : List Parcel) → Receives w p pe parcel rest
        → Happens step pack unpack w (Deliver p) (with_pe (slice_set w.queues p rest) (received pe parcel), [])
    delivery parcel rest r =
        stepped w p pe r.there (Deliver p) (record (local_view w pe) { pe = received pe parcel; queues = slice_set w.queues p rest }) [] (rw (r.queued, r.free) refl)

    pub delivers : (next : PeView C) (parcel : Parcel) (rest : List Parcel) → Receives w p pe parcel rest → next ≡ received pe parcel
        → Reaches step pack unpack w (Deliver p ∷ []) (with_pe (slice_set w.queues p rest) next, [])
    delivers next parcel rest r is = rw is (one w (with_pe (slice_set w.queues p rest) (received pe parcel)) (Deliver p) [] (delivery parcel rest r))

    -- the second event of the PE, from the world that the first one leads to
    second : (queues : List (List Parcel)) (between next : PeView C) (event : Event) (d : LocalView C A) (entries : List TraceEntry) → slice_get w.pes p ≡ Some pe
        → local_step step pack unpack event (local_view (with_pe queues between) between) ≡ Some (d, entries) → d.pe ≡ next → d.words ≡ w.words → d.board ≡ w.board
        → (with_pe d.queues next, entries) ≡ or_nothing (with_pe queues between) (enabled step pack unpack (with_pe queues between) event p)
    second queues between next event d entries there steps is words board =
        let at : slice_get (slice_set w.pes p between) p ≡ Some between = get_set_same w.pes p pe between there in
        let same : ◌≡◌ {A = WorldView C A} (with_local (with_pe queues between) p d) (with_pe d.queues next) = rw (words, board, is, set_twice w.pes p between next) refl in
        ap (λ (v : WorldView C A). (v, entries)) (sym same) ∙ stepped (with_pe queues between) p between at event d entries steps

    acts : (queues : List (List Parcel)) (between : PeView C) (o : Option (Acting C)) → slice_get w.pes p ≡ Some pe → acting step pack unpack between ≡ o → acted_of o ≡ Some Executed
        → Happens step pack unpack (with_pe queues between) (Act p) (with_pe queues (pe_after between o), trace_of o)
    acts queues between None there is did = absurd (cc did)
    acts queues between (Some a) there is did =
        second queues between a.pe (Act p) (record (local_view (with_pe queues between) between) { pe = a.pe }) a.trace there (rw is refl) refl refl refl

    pub delivers_and_acts : (next : PeView C) (parcel : Parcel) (rest : List Parcel) → Receives w p pe parcel rest
        → acted_of (acting step pack unpack (received pe parcel)) ≡ Some Executed → next ≡ pe_after (received pe parcel) (acting step pack unpack (received pe parcel))
        → Reaches step pack unpack w (Deliver p ∷ Act p ∷ []) (with_pe (slice_set w.queues p rest) next, trace_of (acting step pack unpack (received pe parcel)))
    delivers_and_acts next parcel rest r did is =
        let queues = slice_set w.queues p rest in
        let done = acts queues (received pe parcel) (acting step pack unpack (received pe parcel)) r.there refl did in
        subst (λ (v : PeView C). Reaches step pack unpack w (Deliver p ∷ Act p ∷ []) (with_pe queues v, trace_of (acting step pack unpack (received pe parcel)))) (sym is)
        (two w (with_pe queues (received pe parcel)) (with_pe queues (pe_after (received pe parcel) (acting step pack unpack (received pe parcel)))) (Deliver p) (Act p)
        (trace_of (acting step pack unpack (received pe parcel))) (delivery parcel rest r) done)

    look : (parcel : Parcel) (to : ℕ) (queue : List Parcel) → LooksForFront w p pe parcel to queue → Happens step pack unpack w (Look p) (with_pe w.queues (looked pe to), [])
    look parcel to queue l =
        let want : wanted pe ≡ Some l.element = rw (l.free, l.wants) refl in
        stepped w p pe l.there (Look p) (record (local_view w pe) { pe = looked pe to }) [] (rw (want, l.word) refl)

    pub looks_and_flushes : (to : ℕ) (next : PeView C) (parcel : Parcel) (queue : List Parcel) → LooksForFront w p pe parcel to queue → next ≡ gave_up (looked pe to)
        → Reaches step pack unpack w (Look p ∷ Flush p ∷ []) (with_pe (slice_set w.queues to (queue ++ parcel ∷ [])) next, [])
    looks_and_flushes to next parcel queue l is =
        let front = at_front to parcel pe.outbox l.front in
        let outbox : (looked pe to).outbox ≡ front_at to pe.outbox = ap (λ (v : PeView C). v.outbox) (looked_front to pe l.free) in
        let address : front_address (looked pe to).outbox ≡ Some to = ap front_address outbox ∙ front.0 in
        let parcel_is : front_parcel (looked pe to).outbox ≡ Some parcel = ap front_parcel outbox ∙ front.1 in
        let queues = slice_set w.queues to (queue ++ parcel ∷ []) in
        two w (with_pe w.queues (looked pe to)) (with_pe queues next) (Look p) (Flush p) [] (look parcel to queue l)
        (second w.queues (looked pe to) next (Flush p) (record (local_view (with_pe w.queues (looked pe to)) (looked pe to)) { pe = gave_up (looked pe to); queues = queues }) [] l.there
        (rw (address, parcel_is, l.queued) refl) (sym is) refl refl)

    pub looks : (to : ℕ) (next : PeView C) (parcel : Parcel) (queue : List Parcel) → LooksForFront w p pe parcel to queue → next ≡ handed_back (gave_up (looked pe to)) parcel
        → Reaches step pack unpack w (Look p ∷ []) (with_pe w.queues next, [])
    looks to next parcel queue l is =
        let same : next ≡ looked pe to =
        is ∙ ap (λ (v : PeView C). handed_back (gave_up v) parcel) (looked_front to pe l.free) ∙ returned to pe l.free parcel pe.outbox l.front ∙ sym (looked_front to pe l.free) in
        subst (λ (v : PeView C). Reaches step pack unpack w (Look p ∷ []) (with_pe w.queues v, [])) (sym same) (one w (with_pe w.queues (looked pe to)) (Look p) [] (look parcel to queue l))
