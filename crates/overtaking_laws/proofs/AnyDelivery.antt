-- Where any parcel is delivered it overtakes those before it, and then it is delivered; so lists of events with such deliveries
-- are free runs.
use Rattle.std.proofs.Common.{◌≡◌, ℕ, List, [], ◌∷◌, ◌++◌, Option, Some, None, refl, ap, subst, inl, inr, set-set}
use Rattle.std.specs.Prelude.{Result, ◌⊎◌, map, is_none, slice_get, slice_set}
use Rattle.std.specs.Option.{option_and_then}
use Rattle.chares.specs.declared.trace_entry.TraceEntry.{TraceEntry}
use Rattle.chares.specs.Steps.{Step}
use Rattle.pup_pack.specs.declared.error.PupError.{PupError}
use Rattle.pe_state.specs.Pes.{PeView, Parcel, Item, received}
use Rattle.rts_core.specs.declared.event.Event.{Event}
use Rattle.rts_core.specs.declared.event.Event.TheVariants.{Deliver}
use Rattle.rts_core.specs.Events.{After, Happens, LocalView, where_true, front_of, delivered, local_step, local_view, with_local, or_nothing, enabled}
use Rattle.rts_core.specs.Runs.{Reaches}
use Rattle.rts_core.specs.Worlds.{WorldView}
use Rattle.rts_core.proofs.WorldSteps.{get_set_same}
use Rattle.overtaking_laws.specs.FreeRuns.{FreeStep, ReachesFreely, HappensUnordered, ReachesUnordered}
use Rattle.overtaking_laws.specs.FreeRuns.FreeStep.{Makes, Overtaking}
use Rattle.overtaking_laws.specs.Overtaking.{overtaken, Overtakes, TakesAny}

module _ {C A : Type 0} (step : Step C) (pack : C → List ℕ) (unpack : List ℕ → Result (C × ℕ) PupError) where
  pub any_taken : (p : ℕ) (w next : WorldView C A) → TakesAny p w next
      → (between : WorldView C A) × Overtakes w between × Happens step pack unpack between (Deliver p) (next, [])
  any_taken p w next t = (
    overtaken w p t.before t.parcel t.after,
    record { q = p; before = t.before; parcel = t.parcel; after = t.after; queued = t.queued; leads = refl },
    delivers,
  )
    where
      front : List Parcel
      front = t.parcel ∷ t.before ++ t.after

      delivers : (next, []) ≡ or_nothing (overtaken w p t.before t.parcel t.after) (enabled step pack unpack (overtaken w p t.before t.parcel t.after) (Deliver p) p)
      delivers =
          rw t.there
          (rw (get_set_same w.queues p (t.before ++ t.parcel ∷ t.after) (t.parcel ∷ t.before ++ t.after) t.queued)
          (rw t.free (rw (set-set w.queues p (t.parcel ∷ t.before ++ t.after) (t.before ++ t.after)) (rw t.leads refl))))

  -- a delivery from a queue that keeps its order is nothing, or takes the front
  module _ (p : ℕ) (w : WorldView C A) (next : After C A) where
    abbrev pub Takes : Type 0
    Takes = (next ≡ (w, [])) ⊎ ((takes : TakesAny p w next.0) × (takes.before ≡ []) × (next.1 ≡ []))

    -- what a delivery to this PE leads to
    abbrev led_to : PeView C → Option (PeView C × List (List Parcel)) → After C A
    led_to pe o =
        or_nothing w (option_and_then (λ (a : LocalView C A × List TraceEntry). Some (with_local w p a.0, a.1))
        (option_and_then (λ (after : PeView C × List (List Parcel)). Some (record (local_view w pe) { pe = after.0; queues = after.1 }, [])) o))

    by_parcels : (pe : PeView C) (queue : List Parcel) → slice_get w.pes p ≡ Some pe → slice_get w.queues p ≡ Some queue → pe.hand ≡ None
        → next ≡ led_to pe (option_and_then (λ (after : PeView C × List Parcel). Some (after.0, slice_set w.queues p after.1))
        (option_and_then (λ (front : Parcel × List Parcel). Some (received pe front.0, front.1)) (front_of queue)))
        → Takes
    by_parcels pe [] there queued free h = inl h
    by_parcels pe (parcel ∷ rest) there queued free h = inr (
      record { pe = pe; there = there; free = free; before = []; parcel = parcel; after = rest; queued = queued; leads = ap (λ (v : After C A). v.0) h },
      refl,
      ap (λ (v : After C A). v.1) h,
    )

    by_hand : (pe : PeView C) (queue : List Parcel) (hand : Option Item) → slice_get w.pes p ≡ Some pe → slice_get w.queues p ≡ Some queue → pe.hand ≡ hand
        → next ≡ led_to pe (option_and_then (λ (after : PeView C × List Parcel). Some (after.0, slice_set w.queues p after.1))
        (option_and_then (λ (front : Parcel × List Parcel). Some (received pe front.0, front.1)) (where_true (is_none hand) (front_of queue))))
        → Takes
    by_hand pe queue None there queued free h = by_parcels pe queue there queued free h
    by_hand pe queue (Some x) there queued free h = inl h

    by_queue : (pe : PeView C) (o : Option (List Parcel)) → slice_get w.pes p ≡ Some pe → slice_get w.queues p ≡ o
        → next ≡ led_to pe (option_and_then (λ (queue : List Parcel). option_and_then
        (λ (after : PeView C × List Parcel). Some (after.0, slice_set w.queues p after.1)) (delivered pe queue)) o)
        → Takes
    by_queue pe None there queued h = inl h
    by_queue pe (Some queue) there queued h = by_hand pe queue pe.hand there queued refl h

    by_pe : (o : Option (PeView C)) → slice_get w.pes p ≡ o
        → next ≡ or_nothing w (option_and_then (λ (pe : PeView C). option_and_then (λ (a : LocalView C A × List TraceEntry). Some (with_local w p a.0, a.1))
        (local_step step pack unpack (Deliver p) (local_view w pe))) o)
        → Takes
    by_pe None there h = inl h
    by_pe (Some pe) there h = by_queue pe (slice_get w.queues p) there refl h

    pub front_taken : Happens step pack unpack w (Deliver p) next → Takes
    front_taken happens = by_pe (slice_get w.pes p) refl happens

  pub ordered_freely : (w : WorldView C A) (events : List Event) (last : After C A) → Reaches step pack unpack w events last
      → ReachesFreely step pack unpack w (map Makes events) last
  ordered_freely w [] last run = run
  ordered_freely w (event ∷ events) last (first, rest, happens, leads, is) = (first, rest, happens, ordered_freely first.0 events rest leads, is)

  -- one event before a free run
  one_before : (w : WorldView C A) (event : Event) (first rest last : After C A) (steps : List FreeStep) → HappensUnordered step pack unpack w event first
      → ReachesFreely step pack unpack first.0 steps rest → last ≡ (rest.0, first.1 ++ rest.1)
      → (more : List FreeStep) × ReachesFreely step pack unpack w more last
  one_before w event first rest last steps (inl happens) leads is = (Makes event ∷ steps, (first, rest, happens, leads, is))
  one_before w event first rest last steps (inr (p, delivers, takes, quiet)) leads is =
      let b = any_taken p w first.0 takes in
      let silent : last ≡ (rest.0, [] ++ rest.1) = subst (λ (v : List TraceEntry). last ≡ (rest.0, v ++ rest.1)) quiet is in
      (Overtaking ∷ Makes (Deliver p) ∷ steps, (b.0, b.1, ((first.0, []), rest, b.2, leads, silent)))

  pub unordered_freely : (w : WorldView C A) (events : List Event) (last : After C A) → ReachesUnordered step pack unpack w events last
      → (steps : List FreeStep) × ReachesFreely step pack unpack w steps last
  unordered_freely w [] last run = ([], run)
  unordered_freely w (event ∷ events) last (first, rest, happens, leads, is) =
      let later = unordered_freely first.0 events rest leads in
      one_before w event first rest last later.0 happens later.1 is
