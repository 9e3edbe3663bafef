-- What a run of the tallies of a workload on one thread left.
use Rattle.std.proofs.Common.{◌≡◌, ℕ, ◌+◌, List, ◌∷◌, length, length-append, Option, Result, Ok, Err, arith, ap, subst, sym, ◌∙◌}
use Rattle.std.specs.Prelude.{◌<◌, ◌≤◌, ◌^◌, IfErr, MatchResult}
use Rattle.std.proofs.lemmas.List.{length-map}
use Rattle.std.proofs.lemmas.List.FromFn.{length-map-range_with_len}
use Rattle.sync_board.specs.declared.strategy.Strategy.{Strategy}
use Rattle.rts_core.specs.Worlds.{opening_world}
use Rattle.rts_core.specs.declared.event.Event.{Event}
use Rattle.rts_run.specs.declared.error.Setting.{Setting}
use Rattle.rts_run.specs.declared.error.Setting.TheVariants as Of
use Rattle.run_text.specs.Sums.{AreTallies}
use Rattle.run_text.proofs.Histories as of_runs
use Rattle.courses.specs.Courses.{Leads, Made, events_of}
use Rattle.schedules.specs.Courses.{ExploredView, IsExplored}
use Rattle.schedules.specs.Drawn.{IsDrawn}
use Rattle.schedules.specs.Endings.{EndsRun}
use Rattle.schedules.specs.Replays.{RefusesReplay}
use Rattle.schedules.specs.Schedules.{IsFirstOutside, MayExplore}
use Rattle.schedules.specs.declared.bias.Bias.{Bias}
use Rattle.schedules.specs.declared.error.ReplayError.{ReplayError}
use Rattle.schedules.specs.declared.error.ReplayError.TheVariants as Ends
use Rattle.schedules.specs.declared.schedule.Schedule.{Schedule}
use Rattle.tally.specs.Tallies.{TallyRefuses, TallyView, tally_pack, tally_step}
use Rattle.workload.specs.Text.{IsWithin, WorkloadView}
use Rattle.workload_run.specs.Tallies.{tallies_of, tally_of}
use Rattle.schedule_run.specs.Seeds.{TellsSeeds}
use Rattle.workload_run.specs.declared.ended.RunEnd.{RunEnd}
use Rattle.schedule_run.specs.OneThread.{RefusesRun, StopsRun, Unpack}

-- what a run of these chares on this number of PEs left
pub on_one : {A : Type 0} (fits : TallyView → Type 0) (unpack : Unpack) (chares chares' : List TallyView) (pes pes' : ℕ)
    (strategy strategy' : Strategy) (x : ExploredView TallyView A)
    → chares ≡ chares' → pes ≡ pes' → strategy ≡ strategy'
    → IsExplored tally_step fits tally_pack unpack chares pes strategy x
    → IsExplored tally_step fits tally_pack unpack chares' pes' strategy' x
on_one fits unpack chares chares' pes pes' strategy strategy' x same_chares same_pes same_strategy left =
    subst (λ cs. IsExplored tally_step fits tally_pack unpack cs pes' strategy' x) same_chares
    (subst (λ (p : ℕ). IsExplored tally_step fits tally_pack unpack chares p strategy' x) same_pes
    (subst (λ (s : Strategy). IsExplored tally_step fits tally_pack unpack chares pes s x) same_strategy left))

-- its steps are those that a seed draws
pub drawn_on_one : {A : Type 0} (unpack : Unpack) (bias bias' : Bias) (seed : ℕ) (chares chares' : List TallyView) (pes pes' : ℕ)
    (strategy strategy' : Strategy) (x : ExploredView TallyView A)
    → bias ≡ bias' → chares ≡ chares' → pes ≡ pes' → strategy ≡ strategy'
    → IsDrawn tally_step tally_pack unpack bias seed (opening_world pes chares strategy) x
    → IsDrawn tally_step tally_pack unpack bias' seed (opening_world pes' chares' strategy') x
drawn_on_one unpack bias bias' seed chares chares' pes pes' strategy strategy' x same_bias same_chares same_pes same_strategy drawn =
    subst (λ (b : Bias). IsDrawn tally_step tally_pack unpack b seed (opening_world pes' chares' strategy') x) same_bias
    (subst (λ (cs : List TallyView). IsDrawn tally_step tally_pack unpack bias seed (opening_world pes' cs strategy') x) same_chares
    (subst (λ (p : ℕ). IsDrawn tally_step tally_pack unpack bias seed (opening_world p chares strategy') x) same_pes
    (subst (λ (s : Strategy). IsDrawn tally_step tally_pack unpack bias seed (opening_world pes chares s) x) same_strategy drawn)))

-- its end is that of a run of as many events
pub ends_so : {A : Type 0} (unpack : Unpack) (steps steps' : ℕ) (x : ExploredView TallyView A) → steps ≡ steps'
    → EndsRun tally_step tally_pack TallyRefuses unpack steps x → EndsRun tally_step tally_pack TallyRefuses unpack steps' x
ends_so unpack steps steps' x same = subst (λ (n : ℕ). EndsRun tally_step tally_pack TallyRefuses unpack n x) same

-- what was told of the runs of these chares under this schedule
pub seeds_on_one : (A : Type 0) (fits : TallyView → Type 0) (unpack : Unpack) (chares chares' : List TallyView) (schedule schedule' : Schedule)
    (seeds : ℕ) (old new : Option (List ℕ)) (ended : RunEnd)
    → chares ≡ chares' → schedule ≡ schedule'
    → TellsSeeds A tally_step fits tally_pack TallyRefuses unpack chares schedule seeds old new ended
    → TellsSeeds A tally_step fits tally_pack TallyRefuses unpack chares' schedule' seeds old new ended
seeds_on_one A fits unpack chares chares' schedule schedule' seeds old new ended same_chares same_schedule told =
    subst (λ cs. TellsSeeds A tally_step fits tally_pack TallyRefuses unpack cs schedule' seeds old new ended) same_chares
    (subst (λ (s : Schedule). TellsSeeds A tally_step fits tally_pack TallyRefuses unpack chares s seeds old new ended) same_schedule told)

-- what is reported are tallies, as many as the workload has chares
pub are_tallies : {A : Type 0} (fits : TallyView → Type 0) (unpack : Unpack) → ((t : TallyView) → fits t → t.sum < 2 ^ 64)
    → (w : WorkloadView) (n : ℕ) (strategy : Strategy) (x : ExploredView TallyView A)
    → n ≡ w.chares → IsExplored tally_step fits tally_pack unpack (tallies_of w) w.pes strategy x → AreTallies n x.outcome
are_tallies fits unpack numbered w n strategy x same left =
    let counted : length (tallies_of w) ≡ n = length-map-range_with_len (tally_of w) 0 w.chares ∙ sym same in
    subst (λ m. AreTallies m x.outcome) counted
    (of_runs.tallies_left fits numbered (tallies_of w) x.outcome left.account.stands (record { pes = left.histories.pes; queues = left.histories.queues }))

-- an event that is not enabled is one of the list
pub stops_inside : (A : Type 0) (unpack : Unpack) (w : WorkloadView) (strategy : Strategy) (events : List Event) (at : ℕ)
    → StopsRun A unpack w strategy events at → at + 1 ≤ length events
stops_inside A unpack w strategy events at (course, led, by, (event, rest, split, many, disabled)) =
    omega (arith, many, length-map course.steps (λ (s : Made). s.0), ap length split ∙ length-append (events_of course.steps) (event ∷ rest))

-- a schedule that chares may run under is not refused for a number
never_config : (schedule : Schedule) (n : ℕ) (setting : Setting) → MayExplore schedule n → IsFirstOutside schedule n setting → ⊥
never_config schedule n Of.Pes may refused = refused may.0
never_config schedule n Of.Elements may refused = refused.1 may.1
never_config schedule n Of.Capacity may refused = refused
never_config schedule n Of.Turns may refused = refused
never_config schedule n Of.ProbeWorkers may refused = refused

-- a schedule for a workload is one that its chares may run under
pub may_explore : (w : WorkloadView) (schedule : Schedule) (chares : List TallyView) → IsWithin w → chares ≡ tallies_of w → schedule.pes ≡ w.pes
    → MayExplore schedule (length chares)
may_explore w schedule chares within same_chares same_pes =
    let counted : length chares ≡ w.chares = ap length same_chares ∙ length-map-range_with_len (tally_of w) 0 w.chares in
    ((omega (arith, same_pes, within.some_pe), omega (arith, same_pes, within.few_pes)), omega (arith, counted, within.few_chares))

-- why a list of events is not repeated
module _ (A : Type 0) (unpack : Unpack) (w : WorkloadView) (chares : List TallyView) (schedule : Schedule) (strategy : Strategy) (events : List Event) where
  pub refuses_run : (e : ReplayError) → MayExplore schedule (length chares) → chares ≡ tallies_of w → schedule.pes ≡ w.pes → schedule.strategy ≡ strategy
      → RefusesReplay A tally_step tally_pack unpack chares schedule events e → RefusesRun A unpack w strategy events e
  refuses_run (Ends.Config setting) may same_chares same_pes same_strategy refused = never_config schedule (length chares) setting may refused
  refuses_run Ends.OutOfMemory may same_chares same_pes same_strategy refused = tt
  refuses_run (Ends.NotEnabled at) may same_chares same_pes same_strategy (course, led, by, stops) = (
    course,
    subst (λ cs. Leads tally_step tally_pack unpack (opening_world w.pes cs course.strategy) course.steps course.world) same_chares
        (subst (λ (p : ℕ). Leads tally_step tally_pack unpack (opening_world p chares course.strategy) course.steps course.world) same_pes led),
    by ∙ same_strategy,
    stops,
  )

  pub refused_run : {T : Type 0} (r : Result T ReplayError) → IsWithin w → chares ≡ tallies_of w → schedule.pes ≡ w.pes → schedule.strategy ≡ strategy
      → MatchResult r (λ _. MayExplore schedule (length chares)) (RefusesReplay A tally_step tally_pack unpack chares schedule events)
      → IfErr r (RefusesRun A unpack w strategy events)
  refused_run (Ok x) within same_chares same_pes same_strategy answer = tt
  refused_run (Err e) within same_chares same_pes same_strategy answer =
      refuses_run e (may_explore w schedule chares within same_chares same_pes) same_chares same_pes same_strategy answer
