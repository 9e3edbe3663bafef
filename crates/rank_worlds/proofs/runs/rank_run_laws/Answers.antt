use Rattle.std.proofs.Common.{◌≡◌, ℕ, List, [], length, subst, arith}
use Rattle.std.specs.Prelude.{Contains}
use Rattle.sync_board.specs.Boards.{Kept}
use Rattle.chares.specs.declared.trace_entry.TraceEntry.{TraceEntry}
use Rattle.chares.specs.declared.trace_entry.TraceEntry.TheVariants.{Decided, Resumed}
use Rattle.event_laws.specs.Agreement.{Agrees, AllTaken, DecidesOfMarks, IsTakenOf}
use Rattle.event_laws.specs.Barrier.{IsBarrier, ResumesInPlace, StandsInItsPlace}
use Rattle.event_laws.specs.Bound.{ArriveAlone, StandAlone}
use Rattle.event_laws.specs.Finished.{FinishedAsSaid}
use Rattle.event_laws.specs.Measured.{Forecasts}
use Rattle.event_laws.proofs.Arrivals.{arrive_alone}
use Rattle.event_laws.proofs.Finished.{finished_as_said}
use Rattle.event_laws.proofs.Taken.{all_taken}
use Rattle.foreign_chare.specs.Scripts.{Stamp}
use Rattle.overtaking_laws.specs.StaleRuns.{with_words}
use Rattle.overtaking_laws.proofs.StaleAccounts.{stale_accounted, stale_counted, stale_traced}
use Rattle.overtaking_laws.proofs.StaleAgreement.{stale_said}
use Rattle.overtaking_laws.proofs.StaleBarrier.{stale_barrier, stale_in_order, stale_measured, stale_snaps, stale_stands}
use Rattle.overtaking_laws.proofs.StaleJournals.{stale_own}
use Rattle.overtaking_laws.proofs.StalePlaces.{stale_alone}
use Rattle.rank_calls.specs.Runs.{FitsStamp, opening, stamp_pack, stamp_unpack, step_in}
use Rattle.rank_calls.proofs.Openings.{opening_length}
use Rattle.rts_core.specs.Accounts.{Accounted, IsCounted, IsTraced}
use Rattle.rts_core.specs.Orders.{AreInOrder}
use Rattle.rts_core.specs.Own.{AreOwn}
use Rattle.rts_core.specs.Worlds.{WorldView}
use Rattle.rank_worlds.proofs.Addressed.{addressed}
use Rattle.rank_worlds.proofs.LateEvents.{by_late, first_taken, led_to, opening_led}
use Rattle.rank_worlds.proofs.LateLaws.{each_late, each_step}
use Rattle.rank_worlds.proofs.runs.rank_run_laws.Goals as goal

-- what was taken of an element, and where it stands, are the same whatever the location words are
taken_in : {A : Type 0} (w : WorldView Stamp A) (words : List ℕ) (kept : Kept A) (e r : ℕ) → IsTakenOf (with_words w words) kept.0 e r → IsTakenOf w kept.0 e r
taken_in w words kept e r t =
    record {
      p = t.p;
      pe = t.pe;
      el = t.el;
      load = t.load;
      bytes = t.bytes;
      at = t.at;
      stands = t.stands;
      sized = t.sized;
      loaded = t.loaded;
      marked = t.marked;
    }

stands_in : {A : Type 0} (w : WorldView Stamp A) (words : List ℕ) (e r : ℕ) → StandsInItsPlace (with_words w words) e r → StandsInItsPlace w e r
stands_in w words e r s = record { p = s.p; pe = s.pe; el = s.el; at = s.at; stands = s.stands; mine = s.mine; place = s.place }

-- the trace of an event that adds nothing to it has no trace entry
not_in_none : (trace : List TraceEntry) (entry : TraceEntry) → trace ≡ [] → ¬ (Contains trace entry)
not_in_none trace entry none there = let none_there = subst (λ (v : List TraceEntry). Contains v entry) none there in omega (arith, none_there.1)

pub returns-clause-opens : goal.returns-clause-opens
returns-clause-opens g c = opening_led

pub returns-clause-events : goal.returns-clause-events
returns-clause-events g c = λ run r w steps last of reached. let all = by_late run r w of steps last reached in (all.led, all.of_last, all.reaches)

pub returns-clause-late : goal.returns-clause-late
returns-clause-late g c = led_to

pub returns-clause-addressed : goal.returns-clause-addressed
returns-clause-addressed g c = addressed

pub returns-clause-taken : goal.returns-clause-taken
returns-clause-taken g c = λ run strategy steps last some reached p rank there.
    let led = led_to run strategy steps last reached in
    let all = each_late (λ run last. AllTaken last.0)
    (λ run strategy steps led some reached. all_taken (length (opening run)) led.0
    (stale_said (step_in run) stamp_pack stamp_unpack run.pes (opening run) strategy some steps led reached).sound.agrees) run strategy steps last some reached led.0 led.1 in
    first_taken last.0 led.0 (led.1).of_last all p rank there

pub returns-clause-account : goal.returns-clause-account
returns-clause-account g c =
    each_late (λ run last. Accounted run.n last.0 last.1)
    (λ run strategy steps led some reached. subst (λ (n : ℕ). Accounted n led.0 led.1) (opening_length run)
    (stale_accounted (step_in run) stamp_pack stamp_unpack run.pes (opening run) strategy some steps led reached))

pub returns-clause-counted : goal.returns-clause-counted
returns-clause-counted g c =
    each_late (λ run last. IsCounted last.0)
    (λ run strategy steps led some reached. stale_counted (step_in run) stamp_pack stamp_unpack run.pes (opening run) strategy some steps led reached)

pub returns-clause-traced : goal.returns-clause-traced
returns-clause-traced g c =
    each_late (λ run last. IsTraced last.0 last.1)
    (λ run strategy steps led some reached. stale_traced (step_in run) stamp_pack stamp_unpack run.pes (opening run) strategy some steps led reached)

pub returns-clause-own : goal.returns-clause-own
returns-clause-own g c =
    each_late (λ run last. AreOwn last.0)
    (λ run strategy steps led some reached. stale_own (step_in run) stamp_pack stamp_unpack run.pes (opening run) strategy steps led reached)

pub returns-clause-barrier : goal.returns-clause-barrier
returns-clause-barrier g c =
    each_late (λ run last. IsBarrier run.n last.1)
    (λ run strategy steps led some reached. subst (λ (n : ℕ). IsBarrier n led.1) (opening_length run)
    (stale_barrier (step_in run) stamp_pack stamp_unpack run.pes (opening run) strategy some steps led reached))

pub returns-clause-in_order : goal.returns-clause-in_order
returns-clause-in_order g c =
    each_late (λ run last. AreInOrder last.0)
    (λ run strategy steps led some reached. stale_in_order (step_in run) stamp_pack stamp_unpack run.pes (opening run) strategy steps led reached)

pub returns-clause-agreement : goal.returns-clause-agreement
returns-clause-agreement g c =
    each_late (λ run last. Agrees run.n last.0)
    (λ run strategy steps led some reached. subst (λ (n : ℕ). Agrees n led.0) (opening_length run)
    (stale_said (step_in run) stamp_pack stamp_unpack run.pes (opening run) strategy some steps led reached).sound.agrees)

pub returns-clause-notes : goal.returns-clause-notes
returns-clause-notes g c =
    each_late (λ run last. AllTaken last.0)
    (λ run strategy steps led some reached. all_taken (length (opening run)) led.0
    (stale_said (step_in run) stamp_pack stamp_unpack run.pes (opening run) strategy some steps led reached).sound.agrees)

pub returns-clause-stands : goal.returns-clause-stands
returns-clause-stands g c =
    each_step (λ run w next. ResumesInPlace w next) (λ run w next none e r there later. absurd (not_in_none next.1 (Resumed e r) none there))
    (λ run w words next so e r there later. let all = so e r there later in (stands_in w words e r all.0, all.1))
    (λ run strategy steps w trace event next some reached happens e r there later.
    stale_stands (step_in run) stamp_pack stamp_unpack run.pes (opening run) strategy some steps w trace event next reached happens e r there later)

pub returns-clause-snapshot : goal.returns-clause-snapshot
returns-clause-snapshot g c =
    each_step (λ run w next. DecidesOfMarks run.n w next) (λ run w next none r there. absurd (not_in_none next.1 (Decided r) none there))
    (λ run w words next so r there. let all = so r there in (all.0, all.1, λ e less. taken_in w words all.0 e r (all.2 e less)))
    (λ run strategy steps w trace event next some reached happens. subst (λ (n : ℕ). DecidesOfMarks n w next) (opening_length run)
    (λ r there. stale_snaps (step_in run) stamp_pack stamp_unpack run.pes (opening run) strategy some steps w trace event next reached happens r there))

pub returns-clause-measured : goal.returns-clause-measured
unfolding taken_in
returns-clause-measured g c =
    each_step (λ run w next. Forecasts (step_in run) FitsStamp stamp_pack (opening run) w next)
    (λ run w next none r are there. absurd (not_in_none next.1 (Decided r) none there))
    (λ run w words next so r are there.
    let all = so r (record { pes = are.pes; queues = are.queues }) there in (
      all.0,
      all.1,
      λ e less.
          let m = all.2 e less in
          record { taken = taken_in w words all.0 e r m.taken; chare = m.chare; opens = m.opens; did = m.did },
    ))
    (λ run strategy steps w trace event next some reached happens r are there.
    stale_measured (step_in run) stamp_pack stamp_unpack run.pes (opening run) strategy some steps w trace event next reached happens FitsStamp r are there)

pub returns-clause-finished : goal.returns-clause-finished
returns-clause-finished g c =
    each_late (λ run last. FinishedAsSaid last.0)
    (λ run strategy steps led some reached. finished_as_said (length (opening run)) led.0
    (stale_said (step_in run) stamp_pack stamp_unpack run.pes (opening run) strategy some steps led reached))

pub returns-clause-alone : goal.returns-clause-alone
returns-clause-alone g c =
    each_late (λ run last. StandAlone last.0)
    (λ run strategy steps led some reached. stale_alone (step_in run) stamp_pack stamp_unpack run.pes (opening run) strategy some steps led reached)

pub returns-clause-arrivals : goal.returns-clause-arrivals
returns-clause-arrivals g c =
    each_late (λ run last. ArriveAlone last.0)
    (λ run strategy steps led some reached. arrive_alone led.0
    (stale_alone (step_in run) stamp_pack stamp_unpack run.pes (opening run) strategy some steps led reached))
