-- Lists of events beside the steps of a course.
use Rattle.std.proofs.Common.{◌≡◌, ◌∙◌, ℕ, zero, suc, ◌<◌, get_or, Bool, true, false, List, [], ◌∷◌, ◌++◌, Some, length, take, drop, refl, sym, ap, arith}
use Rattle.std.specs.Prelude.{slice_get, MatchBool}
use Rattle.std.proofs.lemmas.List.{length-map, length-take-le}
use Rattle.rts_core.specs.declared.event.Event.{Event}
use Rattle.chares.specs.declared.trace_entry.TraceEntry.{TraceEntry}
use Rattle.courses.specs.Courses.{Made, events_of}

-- the events with one more step
pub events_more : (steps : List Made) (event : Event) (entries : List TraceEntry) → events_of (steps ++ (event, entries) ∷ []) ≡ events_of steps ++ event ∷ []
events_more [] event entries = refl
events_more (made ∷ steps) event entries = ap (λ (es : List Event). made.0 ∷ es) (events_more steps event entries)

-- a list at one of its members
pub split_at : {X : Type 0} (xs : List X) (i : ℕ) (x : X) → slice_get xs i ≡ Some x → xs ≡ take i xs ++ x ∷ drop (suc i) xs
split_at [] i x e = cc
split_at (y ∷ ys) zero x e = cc
split_at {X} (y ∷ ys) (suc i) x e = ap (λ (zs : List X). y ∷ zs) (split_at ys i x e)

pub take_more : {X : Type 0} (xs : List X) (i : ℕ) (x : X) → slice_get xs i ≡ Some x → take (suc i) xs ≡ take i xs ++ x ∷ []
take_more [] i x e = cc
take_more (y ∷ ys) zero x e = cc
take_more {X} (y ∷ ys) (suc i) x e = ap (λ (zs : List X). y ∷ zs) (take_more ys i x e)

-- a member that is read by its index
pub member_at : {X : Type 0} (xs : List X) (i : ℕ) (x : X) → i < length xs → x ≡ get_or xs i x → slice_get xs i ≡ Some x
member_at [] i x lt e = absurd (omega (arith, lt))
member_at (y ∷ ys) zero x lt e = ap Some (sym e)
member_at (y ∷ ys) (suc i) x lt e = member_at ys i x (omega (arith, lt)) e

-- the events that happened are those before this one
pub happened_before : (events : List Event) (steps : List Made) (at : ℕ) (event : Event) → at < length events → event ≡ get_or events at event → events_of steps ≡ take at events
    → (events ≡ events_of steps ++ event ∷ drop (suc at) events) × (length steps ≡ at)
happened_before events steps at event within is before =
    let here = member_at events at event within is in
    let many : length (events_of steps) ≡ at = ap (λ (es : List Event). length es) before ∙ length-take-le at events (omega (arith, within)) in
    (split_at events at event here ∙ ap (λ (es : List Event). es ++ event ∷ drop (suc at) events) (sym before), sym (length-map steps (λ (s : Made). s.0)) ∙ many)

-- what holds where a step was not taken
pub not_taken : (P Q : Type 0) (taken : Bool) → taken ≡ false → MatchBool taken P Q → Q
not_taken P Q true e m = cc
not_taken P Q false e m = m

-- and that one is the next
pub refused_next : (events : List Event) (happened : List Event) (at : ℕ) (event refused : Event) → at < length events
    → event ≡ get_or events at event → refused ≡ event → happened ≡ take at events
    → events ≡ happened ++ refused ∷ drop (suc at) events
refused_next events happened at event refused within is same before =
    split_at events at event (member_at events at event within is) ∙ ap (λ (e : Event). take at events ++ e ∷ drop (suc at) events) (sym same)
    ∙ ap (λ (es : List Event). es ++ refused ∷ drop (suc at) events) (sym before)
