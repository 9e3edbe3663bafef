-- Why a run ended, from how its course did.
use Rattle.std.proofs.Common.{◌≡◌, ◌∙◌, ℕ, ◌+◌, ◌≤◌, List, [], ◌∷◌, length, length-append, Bool, true, false, Option, None, Result, Ok, Err, IfOk, refl, sym, ap, subst, arith}
use Rattle.std.specs.Prelude.{MatchBool}
use Rattle.chares.specs.Elements.{Refuses}
use Rattle.chares.specs.Steps.{Step}
use Rattle.courses.specs.Courses.{CourseView, IsEnabled, IsIdle, Made, TakesStep}
use Rattle.courses.specs.Picks.{PicksUpTo}
use Rattle.courses.specs.Searches.{TakesSome}
use Rattle.pe_worker.specs.declared.fault.Fault.{Fault}
use Rattle.pup_pack.specs.declared.error.PupError.{PupError}
use Rattle.rts_core.specs.declared.event.Event.{Event}
use Rattle.rts_core.specs.Worlds.{WorldView}
use Rattle.schedules.specs.Courses.{ExploredView, IsDone, left_by}
use Rattle.schedules.specs.Endings.{EndsBy, EndsCourse, EndsList, EndsRun, fault_in, refused_in}
use Rattle.schedules.specs.declared.leaving.Ending.{Ending}
use Rattle.schedules.specs.declared.leaving.Ending.TheVariants.{Done, Idle, Stopped, Refused}

-- only a course that is done has no fault
pub only_done : (ending : Ending) → fault_in ending ≡ None → ending ≡ Done
only_done Done e = refl
only_done Idle e = cc
only_done Stopped e = cc
only_done (Refused refusal) e = cc

module _ {C A : Type 0} (step : Step C) (pack : C → List ℕ) (refuses : Refuses C) (unpack : List ℕ → Result (C × ℕ) PupError) where
  pub done_then : (w : WorldView C A) (AtRest AtLast : Type 0) (ending : Ending) → EndsCourse step pack refuses unpack w AtRest AtLast ending → ending ≡ Done → IsDone w
  done_then w AtRest AtLast Done h e = h
  done_then w AtRest AtLast Idle h e = cc
  done_then w AtRest AtLast Stopped h e = cc
  done_then w AtRest AtLast (Refused refusal) h e = cc

  ends_by : (w : WorldView C A) (AtRest AtLast : Type 0) (ending : Ending) → EndsCourse step pack refuses unpack w AtRest AtLast ending
      → EndsBy step pack refuses unpack w AtRest AtLast (refused_in ending) (fault_in ending)
  ends_by w AtRest AtLast Done h = h
  ends_by w AtRest AtLast Idle h = h
  ends_by w AtRest AtLast Stopped h = h
  ends_by w AtRest AtLast (Refused refusal) h = (refusal.error, refl, h)

  -- with what was left of it
  module _ (x : ExploredView C A) (course : CourseView C A) (ending : Ending) (world : left_by x ≡ course.world)
      (steps : x.steps ≡ course.steps) (refused : x.refused ≡ refused_in ending) (fault : x.outcome.fault ≡ fault_in ending) where
    by_both : (AtRest AtLast : Type 0) → EndsBy step pack refuses unpack (left_by x) AtRest AtLast (refused_in ending) (fault_in ending)
        → EndsBy step pack refuses unpack (left_by x) AtRest AtLast x.refused x.outcome.fault
    by_both AtRest AtLast h =
        subst (λ (o : Option Event). EndsBy step pack refuses unpack (left_by x) AtRest AtLast o x.outcome.fault) (sym refused)
        (subst (λ (o : Option Fault). EndsBy step pack refuses unpack (left_by x) AtRest AtLast (refused_in ending) o) (sym fault) h)

    pub run_ended : (limit : ℕ) → EndsCourse step pack refuses unpack course.world (IsIdle step pack unpack course.world) (length course.steps ≡ limit) ending
        → EndsRun step pack refuses unpack limit x
    run_ended limit h =
        by_both (IsIdle step pack unpack (left_by x)) (length x.steps ≡ limit)
        (subst (λ (w : WorldView C A). EndsBy step pack refuses unpack w (IsIdle step pack unpack w) (length x.steps ≡ limit) (refused_in ending) (fault_in ending)) (sym world)
        (subst (λ (s : List Made). EndsBy step pack refuses unpack course.world (IsIdle step pack unpack course.world) (length s ≡ limit)
        (refused_in ending) (fault_in ending)) (sym steps)
        (ends_by course.world (IsIdle step pack unpack course.world) (length course.steps ≡ limit) ending h)))

    pub list_ended : EndsCourse step pack refuses unpack course.world ⊥ (Unit {0}) ending → EndsList step pack refuses unpack x
    list_ended h =
        by_both ⊥ (Unit {0})
        (subst (λ (w : WorldView C A). EndsBy step pack refuses unpack w ⊥ (Unit {0}) (refused_in ending) (fault_in ending)) (sym world)
        (ends_by course.world ⊥ (Unit {0}) ending h))

    pub list_picked : (w : WorldView C A) (events : List Event) → PicksUpTo step pack unpack w events (refused_in ending) course.steps course.world
        → PicksUpTo step pack unpack w events x.refused x.steps (left_by x)
    list_picked w events h =
        subst (λ (o : Option Event). PicksUpTo step pack unpack w events o x.steps (left_by x)) (sym refused)
        (subst (λ (s : List Made). PicksUpTo step pack unpack w events (refused_in ending) s (left_by x)) (sym steps)
        (subst (λ (v : WorldView C A). PicksUpTo step pack unpack w events (refused_in ending) course.steps v) (sym world) h))

  -- the end of a run, where memory may have been refused
  module _ {E : Type 0} (course : CourseView C A) (ending : Ending) where
    pub run_left : (r : Result (ExploredView C A) E) (limit : ℕ)
        → IfOk r (λ x. left_by x ≡ course.world) → IfOk r (λ x. x.steps ≡ course.steps) → IfOk r (λ x. x.refused ≡ refused_in ending)
        → IfOk r (λ x. x.outcome.fault ≡ fault_in ending)
        → EndsCourse step pack refuses unpack course.world (IsIdle step pack unpack course.world) (length course.steps ≡ limit) ending
        → IfOk r (EndsRun step pack refuses unpack limit)
    run_left (Ok x) limit world steps refused fault h = run_ended x course ending world steps refused fault limit h
    run_left (Err e) limit world steps refused fault h = tt

    pub list_left : (r : Result (ExploredView C A) E)
        → IfOk r (λ x. left_by x ≡ course.world) → IfOk r (λ x. x.steps ≡ course.steps) → IfOk r (λ x. x.refused ≡ refused_in ending)
        → IfOk r (λ x. x.outcome.fault ≡ fault_in ending)
        → EndsCourse step pack refuses unpack course.world ⊥ (Unit {0}) ending → IfOk r (EndsList step pack refuses unpack)
    list_left (Ok x) world steps refused fault h = list_ended x course ending world steps refused fault h
    list_left (Err e) world steps refused fault h = tt

    pub picks_left : (r : Result (ExploredView C A) E) (w : WorldView C A) (events : List Event)
        → IfOk r (λ x. left_by x ≡ course.world) → IfOk r (λ x. x.steps ≡ course.steps) → IfOk r (λ x. x.refused ≡ refused_in ending)
        → IfOk r (λ x. x.outcome.fault ≡ fault_in ending)
        → PicksUpTo step pack unpack w events (refused_in ending) course.steps course.world → IfOk r (λ x. PicksUpTo step pack unpack w events x.refused x.steps (left_by x))
    picks_left (Ok x) w events world steps refused fault h = list_picked x course ending world steps refused fault w events h
    picks_left (Err e) w events world steps refused fault h = tt

-- a step that was found, or none
module _ {C A : Type 0} (step : Step C) (pack : C → List ℕ) (unpack : List ℕ → Result (C × ℕ) PupError) (before after : CourseView C A) where
  abbrev Found : Bool → Type 0
  Found found = MatchBool found (TakesSome step pack unpack before after) (IsIdle step pack unpack before.world × (after ≡ before))

  pub found_strategy : (found : Bool) → Found found → after.strategy ≡ before.strategy
  found_strategy true h = h.1.0
  found_strategy false h = ap (λ (c : CourseView C A). c.strategy) h.1

  pub found_one : (found : Bool) → Found found → MatchBool found (length after.steps ≡ length before.steps + 1) ((after.steps ≡ before.steps) × IsIdle step pack unpack after.world)
  found_one true h = ap length h.1.1.1 ∙ length-append before.steps ((h.0, h.1.1.0) ∷ [])
  found_one false h = (ap (λ (c : CourseView C A). c.steps) h.1, subst (λ (c : CourseView C A). IsIdle step pack unpack c.world) (sym h.1) h.0)

-- a step that was taken, or not
module _ {C A : Type 0} (step : Step C) (pack : C → List ℕ) (unpack : List ℕ → Result (C × ℕ) PupError) (before after : CourseView C A) (event : Event) where
  abbrev Took : Bool → Type 0
  Took taken = MatchBool taken (TakesStep step pack unpack before event after) (¬ (IsEnabled step pack unpack before.world event) × (after ≡ before))

  pub taken_strategy : (taken : Bool) → Took taken → after.strategy ≡ before.strategy
  taken_strategy true h = h.0
  taken_strategy false h = ap (λ (c : CourseView C A). c.strategy) h.1

  pub taken_few : (taken : Bool) → Took taken → length after.steps ≤ length before.steps + 1
  taken_few true h = omega (arith, ap length h.1.1 ∙ length-append before.steps ((event, h.1.0) ∷ []))
  taken_few false h = omega (arith, ap (λ (c : CourseView C A). length c.steps) h.1)
