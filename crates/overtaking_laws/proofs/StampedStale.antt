-- A stamped run is a stale run with the same trace, whatever location words are seen at its end.
use Rattle.std.proofs.Common.{◌≡◌, ℕ, zero, suc, List, [], ◌∷◌, ◌++◌, length, map, replicate, Some, refl, sym, ◌∙◌, ap, subst}
use Rattle.std.specs.Prelude.{Result, option_map, slice_get}
use Rattle.std.proofs.lemmas.List.{map-append, map-set, map_push}
use Rattle.std.proofs.lemmas.Option.{slice_get-map}
use Rattle.sync_board.specs.declared.strategy.Strategy.{Strategy}
use Rattle.chares.specs.declared.trace_entry.TraceEntry.{TraceEntry}
use Rattle.chares.specs.Steps.{Step}
use Rattle.pup_pack.specs.declared.error.PupError.{PupError}
use Rattle.pe_state.specs.Pes.{Parcel}
use Rattle.rts_core.specs.declared.event.Event.{Event}
use Rattle.rts_core.specs.declared.event.Event.TheVariants.{Flush, Deliver}
use Rattle.rts_core.specs.Events.{After, Happens}
use Rattle.rts_core.specs.Worlds.{WorldView, opening_world}
use Rattle.overtaking_laws.specs.Overtaking.{TakesAny}
use Rattle.overtaking_laws.specs.StaleRuns.{StaleStep, ReachesStale}
use Rattle.overtaking_laws.specs.StaleRuns.StaleStep.{Makes as StaleMakes, Overtaking, Relearning}
use Rattle.overtaking_laws.specs.StampedRuns.{Stamped, StampedView, StampedStep, AfterStamped, SendsStamped, TakesInTime, KeepsQueues, ReachesStamped, opening_stamped, seen_by, maker, world_with}
use Rattle.overtaking_laws.specs.StampedRuns.StampedStep.{Makes, Sends, Takes, Learns}
use Rattle.overtaking_laws.proofs.AnyDelivery.{any_taken}
use Rattle.overtaking_laws.proofs.EventCases.{same_queues}

-- a parcel without its stamp
abbrev parcel_of : Stamped → Parcel
parcel_of x = x.1

queue_without : (queues : List (List Stamped)) (q : ℕ) (queue : List Stamped) → slice_get queues q ≡ Some queue
    → slice_get (map (map parcel_of) queues) q ≡ Some (map parcel_of queue)
queue_without queues q queue h = slice_get-map (map parcel_of) queues q ∙ ap (option_map (map parcel_of)) h

module _ {C A : Type 0} (step : Step C) (pack : C → List ℕ) (unpack : List ℕ → Result (C × ℕ) PupError) (s : StampedView C A) (words : List ℕ) where
  -- a parcel is put into a queue
  flushes : (p : ℕ) (next : StampedView C A) → SendsStamped p s next → Happens step pack unpack (world_with s words) (Flush p) (world_with next words, [])
  flushes p next t =
      rw t.leads
      (rw t.there
      (rw t.goes_to
      (rw t.front
      (rw (queue_without s.queues t.q t.queue t.queued)
      (rw (map-set (map parcel_of) s.queues t.q (t.queue ++ (s.known p, t.parcel) ∷ []), map_push parcel_of t.queue (s.known p, t.parcel)) refl)))))

  -- one is taken out
  takes_any : (p : ℕ) (next : StampedView C A) → TakesInTime p s next → TakesAny p (world_with s words) (world_with next words)
  takes_any p next t =
      record {
        pe = t.pe;
        there = t.there;
        free = t.free;
        before = map parcel_of t.before;
        parcel = t.parcel.1;
        after = map parcel_of t.after;
        queued = queue_without s.queues p (t.before ++ t.parcel ∷ t.after) t.queued ∙ ap Some (map-append parcel_of t.before (t.parcel ∷ t.after));
        leads = rw t.leads (rw (map-set (map parcel_of) s.queues p (t.before ++ t.after), map-append parcel_of t.before t.after) refl);
      }

module _ {C A : Type 0} (step : Step C) (pack : C → List ℕ) (unpack : List ℕ → Result (C × ℕ) PupError) (n pes : ℕ) (ends : List ℕ) where
  -- what is reached, with these location words
  abbrev seen_last : AfterStamped C A → After C A
  seen_last last = (world_with last.0 ends, last.1)

  abbrev IsStale : WorldView C A → AfterStamped C A → Type 0
  IsStale w last = (more : List StaleStep) × ReachesStale step pack unpack w more (seen_last last)

  seen_joined : (first rest last : AfterStamped C A) (rs : List TraceEntry) → first.1 ≡ rs → last ≡ (rest.0, first.1 ++ rest.1)
      → seen_last last ≡ (world_with rest.0 ends, rs ++ rest.1)
  seen_joined first rest last rs quiet is =
      ap seen_last is ∙ ap (λ (v : List TraceEntry). (world_with rest.0 ends, v ++ rest.1)) quiet

  -- one event before
  event_before : (s : StampedView C A) (words : List ℕ) (event : Event) (w : After C A) (first rest last : AfterStamped C A)
      → KeepsQueues event → Happens step pack unpack (seen_by n pes s (maker event)) event w
      → first ≡ (record s { pes = w.0.pes; board = w.0.board }, w.1) → last ≡ (rest.0, first.1 ++ rest.1)
      → IsStale (world_with first.0 w.0.words) rest → IsStale (world_with s words) last
  event_before s words event w first rest last keeps happens made is (more, leads) =
      let queues = same_queues step pack unpack (seen_by n pes s (maker event)) event w keeps happens in
      let seen : w.0 ≡ world_with (record s { pes = w.0.pes; board = w.0.board }) w.0.words =
      ap (λ (v : List (List Parcel)). record { pes = w.0.pes; queues = v; words = w.0.words; board = w.0.board }) queues in
      let same : world_with first.0 w.0.words ≡ w.0 = ap (λ (v : AfterStamped C A). world_with v.0 w.0.words) made ∙ sym seen in
      let entries : first.1 ≡ w.1 = ap (λ (v : AfterStamped C A). v.1) made in (
        Relearning ∷ StaleMakes event ∷ more,
        (
          seen_by n pes s (maker event),
          record { words = (seen_by n pes s (maker event)).words; leads = refl },
          (
            w,
            seen_last rest,
            happens,
            subst (λ (v : WorldView C A). ReachesStale step pack unpack v more (seen_last rest)) same leads,
            seen_joined first rest last w.1 entries is,
          ),
        ),
      )

  pub stale_from : (s : StampedView C A) (words : List ℕ) (steps : List StampedStep) (last : AfterStamped C A)
      → ReachesStamped step pack unpack n pes s steps last → IsStale (world_with s words) last
  stale_from s words [] last run =
      subst (IsStale (world_with s words)) (sym run) (Relearning ∷ [], (world_with s ends, record { words = ends; leads = refl }, refl))
  stale_from s words (Makes event ∷ steps) last (first, rest, (keeps, informed, w, happens, made), leads, is) =
      event_before s words event w first rest last keeps happens made is
      (stale_from first.0 w.0.words steps rest leads)
  stale_from s words (Sends p ∷ steps) last (first, rest, (sends, quiet), leads, is) =
      let later = stale_from first.0 words steps rest leads in (
        StaleMakes (Flush p) ∷ later.0,
        ((world_with first.0 words, []), seen_last rest, flushes step pack unpack s words p first.0 sends, later.1, seen_joined first rest last [] quiet is),
      )
  stale_from s words (Takes p ∷ steps) last (first, rest, (takes, quiet), leads, is) =
      let later = stale_from first.0 words steps rest leads in
      let b = any_taken step pack unpack p (world_with s words) (world_with first.0 words) (takes_any step pack unpack s words p first.0 takes) in (
        Overtaking ∷ StaleMakes (Deliver p) ∷ later.0,
        (b.0, b.1, ((world_with first.0 words, []), seen_last rest, b.2, later.1, seen_joined first rest last [] quiet is)),
      )
  stale_from s words (Learns p ∷ steps) last (first, rest, (learns, quiet), leads, is) =
      let later = stale_from first.0 words steps rest leads in
      let same : world_with first.0 words ≡ world_with s words = ap (λ (v : StampedView C A). world_with v words) learns.leads in (
        later.0,
        subst (ReachesStale step pack unpack (world_with s words) later.0) (sym (seen_joined first rest last [] quiet is))
            (subst (λ (v : WorldView C A). ReachesStale step pack unpack v later.0 (seen_last rest)) same later.1),
      )

pub stamped_is_stale : {C A : Type 0} (step : Step C) (pack : C → List ℕ) (unpack : List ℕ → Result (C × ℕ) PupError) (pes : ℕ) (chares : List C) (strategy : Strategy)
    (steps : List StampedStep) (last : AfterStamped C A) → ReachesStamped step pack unpack (length chares) pes (opening_stamped pes chares strategy) steps last → (words : List ℕ)
    → (more : List StaleStep) × ReachesStale step pack unpack (opening_world pes chares strategy) more (world_with last.0 words, last.1)
stamped_is_stale {C} {A} step pack unpack pes chares strategy steps last run words =
    let n : ℕ = length chares in
    let s : StampedView C A = opening_stamped pes chares strategy in
    let first : WorldView C A = opening_world pes chares strategy in
    let same : world_with s first.words ≡ first =
    ap (λ (v : List (List Parcel)). record { pes = first.pes; queues = v; words = first.words; board = first.board }) (none_queued pes) in
    let stale = stale_from step pack unpack n pes words s first.words steps last run in
    (stale.0, subst (λ (v : WorldView C A). ReachesStale step pack unpack v stale.0 (world_with last.0 words, last.1)) same stale.1)
  where
    none_queued : (count : ℕ) → map (map parcel_of) (replicate count []) ≡ replicate count []
    none_queued zero = refl
    none_queued (suc count) = ap (λ (v : List (List Parcel)). [] ∷ v) (none_queued count)
