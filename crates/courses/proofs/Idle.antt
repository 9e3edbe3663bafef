-- That no event is enabled, where none is of those that were tried.
use Rattle.std.proofs.Common.{◌≡◌, ◌∙◌, inl, inr, ◌⊎◌, ℕ, ◌+◌, ◌<◌, ◌≤◌, List, [], ◌∷◌, ◌++◌, length, take, get_or, Option, Some, None, Bool, true, false, refl, sym, subst, ap, arith}
use Rattle.std.specs.Prelude.{Result, IfSome, IsSome, MatchBool, MatchOption, slice_get}
use Rattle.std.specs.BTreeMap.{is_at}
use Rattle.std.specs.Option.{option_and_then}
use Rattle.std.specs.Ordering.{nat_cmp}
use Rattle.std.proofs.lemmas.Bool.{cases_lt}
use Rattle.std.proofs.lemmas.List.{take_more}
use Rattle.std.proofs.lemmas.Map.Views.{IfSome-lookup_from_All}
use Rattle.std.proofs.lemmas.Option.{slice_get_past, slice_get_within}
use Rattle.chares.specs.Elements.{ElementView, IsHistory}
use Rattle.chares.specs.Steps.{Step}
use Rattle.lb_database.specs.Measuring.{IsComplete}
use Rattle.pe_state.specs.Histories.{HasHistories}
use Rattle.pe_state.specs.Pes.{PeView}
use Rattle.pe_state.specs.Rooms.{IsKeyed, found}
use Rattle.pup_pack.specs.declared.error.PupError.{PupError}
use Rattle.rts_core.specs.declared.event.Event.{Event}
use Rattle.rts_core.specs.declared.event.Event.TheVariants.{Start, Look, Flush, Deliver, Act, Report, Decide, Depart, Resume}
use Rattle.rts_core.specs.Events.{depart_event, due, enabled, local_step, local_view, pe_of, resume_event, start_event}
use Rattle.rts_core.specs.Worlds.{WorldView}
use Rattle.courses.specs.Courses.{CourseView, IsEnabled, IsIdle, TakesStep}
use Rattle.courses.specs.Searches.{IsQuiet, NoneEnabled, TakesSome, events_at, events_for}

-- what follows from nothing is nothing
gone : {X Y : Type 0} (f : X → Option Y) (o : Option X) → o ≡ None → IsSome (option_and_then f o) → ⊥
gone f None e h = cc
gone f (Some x) e h = cc

-- what something follows from is something
from : {X Y : Type 0} (f : X → Option Y) (o : Option X) → IsSome (option_and_then f o) → IsSome o
from f None h = cc
from f (Some x) h = refl

from_this : {X Y : Type 0} (f : X → Option Y) (o : Option X) (x : X) → o ≡ Some x → IsSome (option_and_then f o) → IsSome (f x)
from_this {X} f o x e h = subst (λ (u : Option X). IsSome (option_and_then f u)) e h

neither : {X : Type 0} (o : Option X) → o ≡ None → IsSome o → ⊥
neither None e h = cc
neither (Some x) e h = cc

number : Option ℕ → ℕ
number None = 0
number (Some n) = n

same : (p q : ℕ) → Some q ≡ Some p → p ≡ q
unfolding number
same p q e = sym (ap number e)

-- an element beyond those of the run does not stand on a PE
pub nowhere : {C : Type 0} (step : Step C) (fits : C → Type 0) (pack : C → List ℕ) (opened : List C) (pe : PeView C) (e : ℕ)
    → HasHistories step fits pack opened pe → IsKeyed pe.room → length opened ≤ e → found e pe.room ≡ None
nowhere {C} step fits pack opened pe e histories keyed past =
    by (found e pe.room) (IfSome-lookup_from_All (IsHistory step pack opened) (is_at (nat_cmp e)) pe.room histories.room) (keyed e)
  where
    by : (o : Option (ElementView C)) → IfSome o (IsHistory step pack opened) → IfSome o (λ el. el.index ≡ e) → o ≡ None
    by None h k = refl
    by (Some el) h k = absurd (omega (arith, slice_get_within opened el.index h.opening h.opens, k, past))

module _ {C A : Type 0} (step : Step C) (pack : C → List ℕ) (unpack : List ℕ → Result (C × ℕ) PupError) (w : WorldView C A) where
  abbrev Off : Event → Type 0
  Off event = ¬ (IsEnabled step pack unpack w event)

  -- one event more
  pub none_more : (events : List Event) (event : Event) → NoneEnabled step pack unpack w events → Off event → NoneEnabled step pack unpack w (events ++ event ∷ [])
  none_more [] event none off = (off, tt)
  none_more (first ∷ events) event none off = (none.0, none_more events event none.1 off)

  pub none_next : (events : List Event) (i : ℕ) (event : Event) → i < length events → event ≡ get_or events i event
      → NoneEnabled step pack unpack w (take i events) → Off event → NoneEnabled step pack unpack w (take (i + 1) events)
  none_next events i event within is none off =
      subst (λ (es : List Event). NoneEnabled step pack unpack w es) (sym (take_more events i event within ∙ ap (λ (e : Event). take i events ++ e ∷ []) (sym is)))
      (none_more (take i events) event none off)

  -- where there is no such PE
  pub no_pe : (p e : ℕ) → slice_get w.pes p ≡ None → NoneEnabled step pack unpack w (events_for p e)
  no_pe p e none = (λ h. gone _ (slice_get w.pes p) none h, (λ h. gone _ (slice_get w.pes p) none h, (λ h. gone _ (slice_get w.pes p) none h, tt)))

  -- where the element does not stand on it
  pub elsewhere : (p e : ℕ) (pe : PeView C) → slice_get w.pes p ≡ Some pe → found e pe.room ≡ None → NoneEnabled step pack unpack w (events_for p e)
  elsewhere p e pe at none = (
    λ h. neither (found e pe.room) none (from _ (found e pe.room)
        (from _ (start_event step pack pe e) (from _ (local_step step pack unpack (Start p e) (local_view w pe)) (from_this _ (slice_get w.pes p) pe at h)))),
    (
      λ h. neither (found e pe.room) none (from _ (found e pe.room) (from _ (due pe w.board e) (from _ (depart_event step pack p pe w.words w.board e)
          (from _ (local_step step pack unpack (Depart p e) (local_view w pe)) (from_this _ (slice_get w.pes p) pe at h))))),
      (
        λ h. neither (found e pe.room) none (from _ (found e pe.room) (from _ (due pe w.board e) (from _ (resume_event step pack p pe w.board e)
            (from _ (local_step step pack unpack (Resume p e) (local_view w pe)) (from_this _ (slice_get w.pes p) pe at h))))),
        tt,
      ),
    ),
  )

  -- no event of a PE is enabled
  pub quiet : (p : ℕ) → NoneEnabled step pack unpack w (events_at p) → ((e : ℕ) → NoneEnabled step pack unpack w (events_for p e)) → IsQuiet step pack unpack w p
  quiet p here goes (Start q e) is = subst (λ (r : ℕ). Off (Start r e)) (same p q is) (goes e).0
  quiet p here goes (Look q) is = subst (λ (r : ℕ). Off (Look r)) (same p q is) here.0
  quiet p here goes (Flush q) is = subst (λ (r : ℕ). Off (Flush r)) (same p q is) here.1.0
  quiet p here goes (Deliver q) is = subst (λ (r : ℕ). Off (Deliver r)) (same p q is) here.1.1.0
  quiet p here goes (Act q) is = subst (λ (r : ℕ). Off (Act r)) (same p q is) here.1.1.1.0
  quiet p here goes (Report q) is = subst (λ (r : ℕ). Off (Report r)) (same p q is) here.1.1.1.1.0
  quiet p here goes Decide is = λ h. cc
  quiet p here goes (Depart q e) is = subst (λ (r : ℕ). Off (Depart r e)) (same p q is) (goes e).1.0
  quiet p here goes (Resume q e) is = subst (λ (r : ℕ). Off (Resume r e)) (same p q is) (goes e).1.1.0

  -- no event at all is
  outside : (event : Event) (p : ℕ) → length w.pes ≤ p → pe_of event ≡ Some p → Off event
  outside event p past is = by (pe_of event) is
    where
      by : (o : Option ℕ) → o ≡ Some p → MatchOption o (IsComplete w.board.database) (λ q. IsSome (enabled step pack unpack w event q)) → ⊥
      by None e h = cc
      by (Some q) e h = gone _ (slice_get w.pes q) (slice_get_past w.pes q (omega (arith, past, same p q e))) h

  module _ (each : (q : ℕ) → q < length w.pes → IsQuiet step pack unpack w q) (decide : Off Decide) where
    at : (event : Event) (p : ℕ) → pe_of event ≡ Some p → Off event
    at event p is = by (cases_lt p (length w.pes))
      where
        by : (p < length w.pes) ⊎ (length w.pes ≤ p) → Off event
        by (inl within) = each p within event is
        by (inr past) = outside event p past is

    pub idle : IsIdle step pack unpack w
    idle (Start p e) = at (Start p e) p refl
    idle (Look p) = at (Look p) p refl
    idle (Flush p) = at (Flush p) p refl
    idle (Deliver p) = at (Deliver p) p refl
    idle (Act p) = at (Act p) p refl
    idle (Report p) = at (Report p) p refl
    idle Decide = decide
    idle (Depart p e) = at (Depart p e) p refl
    idle (Resume p e) = at (Resume p e) p refl

-- where the last event that was tried is the decision
module _ {C A : Type 0} (step : Step C) (pack : C → List ℕ) (unpack : List ℕ → Result (C × ℕ) PupError) (before mid after : CourseView C A)
    (unchanged : mid ≡ before) (each : (q : ℕ) → q < length before.world.pes → IsQuiet step pack unpack before.world q) where
  pub last_tried : (taken : Bool)
      → MatchBool taken (TakesStep step pack unpack mid Decide after) (¬ (IsEnabled step pack unpack mid.world Decide) × (after ≡ mid))
      → MatchBool taken (TakesSome step pack unpack before after) (IsIdle step pack unpack before.world × (after ≡ before))
  last_tried true taken = (Decide, subst (λ (v : CourseView C A). TakesStep step pack unpack v Decide after) unchanged taken)
  last_tried false (off, still) = (
    idle step pack unpack before.world each (subst (λ (v : CourseView C A). ¬ (IsEnabled step pack unpack v.world Decide)) unchanged off),
    still ∙ unchanged,
  )
