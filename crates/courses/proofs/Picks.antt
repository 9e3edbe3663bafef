-- Events of a list that were picked: one more.
use Rattle.std.proofs.Common.{◌≡◌, ◌∙◌, inl, inr, ℕ, ◌+◌, ◌<◌, List, [], ◌∷◌, ◌++◌, length, take, get_or, Bool, true, false, refl, sym, subst, ap}
use Rattle.std.proofs.lemmas.List.{take_more}
use Rattle.std.specs.Prelude.{Result, MatchBool}
use Rattle.chares.specs.declared.trace_entry.TraceEntry.{TraceEntry}
use Rattle.chares.specs.Steps.{Step}
use Rattle.pup_pack.specs.declared.error.PupError.{PupError}
use Rattle.rts_core.specs.declared.event.Event.{Event}
use Rattle.rts_core.specs.Events.{Happens}
use Rattle.rts_core.specs.Worlds.{WorldView}
use Rattle.courses.specs.Courses.{CourseView, IsEnabled, Made, TakesStep}
use Rattle.courses.specs.Picks.{Picks}

-- what holds where a step was not taken
pub not_taken : (P Q : Type 0) (taken : Bool) → taken ≡ false → MatchBool taken P Q → Q
not_taken P Q true e m = cc
not_taken P Q false e m = m

module _ {C A : Type 0} (step : Step C) (pack : C → List ℕ) (unpack : List ℕ → Result (C × ℕ) PupError) where
  one_more : (w v next : WorldView C A) (events : List Event) (steps : List Made) (event : Event) (entries : List TraceEntry)
      → Picks step pack unpack w events steps v → IsEnabled step pack unpack v event → Happens step pack unpack v event (next, entries)
      → Picks step pack unpack w (events ++ event ∷ []) (steps ++ (event, entries) ∷ []) next
  one_more w v next [] steps event entries (none, same) may did =
      inr (
        (next, entries),
        [],
        subst (λ (u : WorldView C A). IsEnabled step pack unpack u event) same may,
        subst (λ (u : WorldView C A). Happens step pack unpack u event (next, entries)) same did,
        ap (λ (s : List Made). s ++ (event, entries) ∷ []) none,
        (refl, refl),
      )
  one_more w v next (first ∷ events) steps event entries (inl (off, more)) may did = inl (off, one_more w v next events steps event entries more may did)
  one_more w v next (first ∷ events) steps event entries (inr (mid, rest, could, happened, split, more)) may did =
      inr (
        mid,
        rest ++ (event, entries) ∷ [],
        could,
        happened,
        ap (λ (s : List Made). s ++ (event, entries) ∷ []) split,
        one_more mid.0 v next events rest event entries more may did,
      )

  left_out : (w v : WorldView C A) (events : List Event) (steps : List Made) (event : Event)
      → Picks step pack unpack w events steps v → ¬ (IsEnabled step pack unpack v event) → Picks step pack unpack w (events ++ event ∷ []) steps v
  left_out w v [] steps event (none, same) off = inl (subst (λ (u : WorldView C A). ¬ (IsEnabled step pack unpack u event)) same off, (none, same))
  left_out w v (first ∷ events) steps event (inl (off, more)) not_this = inl (off, left_out w v events steps event more not_this)
  left_out w v (first ∷ events) steps event (inr (mid, rest, could, happened, split, more)) not_this =
      inr (mid, rest, could, happened, split, left_out mid.0 v events rest event more not_this)

  -- whether it was enabled or not
  pub picks_more : (w : WorldView C A) (before after : CourseView C A) (events : List Event) (event : Event) (taken : Bool)
      → Picks step pack unpack w events before.steps before.world
      → MatchBool taken (TakesStep step pack unpack before event after) (¬ (IsEnabled step pack unpack before.world event) × (after ≡ before))
      → Picks step pack unpack w (events ++ event ∷ []) after.steps after.world
  picks_more w before after events event true picks (by, (entries, split, may, did)) =
      subst (λ (s : List Made). Picks step pack unpack w (events ++ event ∷ []) s after.world) (sym split)
      (one_more w before.world after.world events before.steps event entries picks may did)
  picks_more w before after events event false picks (off, same) =
      subst (λ (v : CourseView C A). Picks step pack unpack w (events ++ event ∷ []) v.steps v.world) (sym same)
      (left_out w before.world events before.steps event picks off)

  -- so for the next event of a list
  pub picks_next : (w : WorldView C A) (before after : CourseView C A) (events : List Event) (i : ℕ) (event : Event) (taken : Bool)
      → i < length events → event ≡ get_or events i event → Picks step pack unpack w (take i events) before.steps before.world
      → MatchBool taken (TakesStep step pack unpack before event after) (¬ (IsEnabled step pack unpack before.world event) × (after ≡ before))
      → Picks step pack unpack w (take (i + 1) events) after.steps after.world
  picks_next w before after events i event taken within is picks did =
      subst (λ (es : List Event). Picks step pack unpack w es after.steps after.world)
      (sym (take_more events i event within ∙ ap (λ (e : Event). take i events ++ e ∷ []) (sym is)))
      (picks_more w before after (take i events) event taken picks did)
