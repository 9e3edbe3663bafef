-- Steps that are drawn, one after another.
use Rattle.std.proofs.Common.{◌≡◌, ◌∙◌, ℕ, ◌-◌, ◌<◌, List, [], ◌∷◌, ◌++◌, length, get_or, Bool, true, false, Option, Some, None, refl, sym, ap, subst, arith}
use Rattle.std.specs.Prelude.{IfSome, IsSome, MatchBool, MatchOption, Result, slice_get}
use Rattle.std.proofs.Math.Seq.{get_or-append_seam}
use Rattle.std.proofs.lemmas.List.{length-append}
use Rattle.std.proofs.lemmas.Option.{slice_get_read}
use Rattle.chares.specs.Steps.{Step}
use Rattle.chares.specs.declared.trace_entry.TraceEntry.{TraceEntry}
use Rattle.courses.specs.Courses.{CourseView, IsEnabled, Made, TakesStep}
use Rattle.courses.specs.Searches.{TakesSome}
use Rattle.lb_database.specs.Measuring.{IsComplete}
use Rattle.pup_pack.specs.declared.error.PupError.{PupError}
use Rattle.rts_core.specs.declared.event.Event.{Event}
use Rattle.rts_core.specs.Events.{After, Happens, MayDecide, enabled, or_nothing, pe_of}
use Rattle.rts_core.specs.Worlds.{WorldView}
use Rattle.schedules.specs.Choices.{ChoicesView, ChooserView, Knows, KnowsBut, put_into, turn_of}
use Rattle.schedules.specs.Draws.{Draws, DrawsAll, IsChosen, Turn, drawn}
use Rattle.schedules.specs.declared.bias.Bias.{Bias}
use Rattle.schedules.proofs.Elements.{Stays, enabled_stays, knows_rest}

-- what holds where a step was taken
pub where_taken : (P Q : Type 0) (taken : Bool) → taken ≡ true → MatchBool taken P Q → P
where_taken P Q true e m = m
where_taken P Q false e m = cc

-- the last of a list with one more member
pub last_more : {X : Type 0} (xs : List X) (x : X) → slice_get (xs ++ x ∷ []) (length (xs ++ x ∷ []) - 1) ≡ Some x
last_more {X} xs x =
    let l = length-append xs (x ∷ []) in
    let i : length (xs ++ x ∷ []) - 1 ≡ length xs = omega (arith, l) in
    let within : length (xs ++ x ∷ []) - 1 < length (xs ++ x ∷ []) = omega (arith, l) in
    slice_get_read (xs ++ x ∷ []) (length (xs ++ x ∷ [])) (length (xs ++ x ∷ []) - 1) x refl within
    (sym (ap (λ (k : ℕ). get_or (xs ++ x ∷ []) k x) i ∙ get_or-append_seam xs x [] x))

in_some : {X : Type 0} → X → Option X → X
in_some d None = d
in_some d (Some x) = x

same_some : {X : Type 0} (x y : X) → Some x ≡ Some y → x ≡ y
unfolding in_some
same_some x y e = ap (in_some x) e

pub last_is : {X : Type 0} (before after : List X) (made found : X) → after ≡ before ++ made ∷ [] → slice_get after (length after - 1) ≡ Some found → found ≡ made
last_is {X} before after made found split got =
    let at = subst (λ (l : List X). slice_get l (length l - 1) ≡ Some found) split got in
    same_some found made (sym at ∙ last_more before made)

module _ {C A : Type 0} (step : Step C) (pack : C → List ℕ) (unpack : List ℕ → Result (C × ℕ) PupError) where
  -- one more step
  pub draws_more : (bias : Bias) (at : Turn C A) (steps : List Made) (last : Turn C A) (made : Made) (next : Turn C A)
      → DrawsAll step pack unpack bias at steps last → Draws step pack unpack bias last made next → DrawsAll step pack unpack bias at (steps ++ made ∷ []) next
  draws_more bias at [] last made next all one = (next, subst (λ (t : Turn C A). Draws step pack unpack bias t made next) all one, refl)
  draws_more bias at (m ∷ ms) last made next (n, d, rest) one = (n, d, draws_more bias n ms last made next rest one)

  -- an event that is enabled and happens, of a PE
  stays_after : (w w' : WorldView C A) (event : Event) (p : ℕ) (entries : List TraceEntry) → pe_of event ≡ Some p
      → IsSome (enabled step pack unpack w event p) → (w', entries) ≡ or_nothing w (enabled step pack unpack w event p) → Stays w event p (w', entries)
  stays_after w w' event p entries of is e = by (enabled step pack unpack w event p) is e (enabled_stays step pack unpack w event p of)
    where
      by : (o : Option (After C A)) → IsSome o → (w', entries) ≡ or_nothing w o → IfSome o (Stays w event p) → Stays w event p (w', entries)
      by None is e h = cc
      by (Some after) is e h = subst (λ (a : After C A). Stays w event p a) (sym e) h

  -- what was known before an event is known after it, except for what it changes
  pub rest_known : (w w' : WorldView C A) (event : Event) (entries : List TraceEntry) (c : ChoicesView) → Knows w c → IsEnabled step pack unpack w event
      → Happens step pack unpack w event (w', entries) → MatchOption (pe_of event) (length c.looks ≡ length w'.pes) (λ p. KnowsBut w' c p (put_into w event) entries)
  rest_known w w' event entries c knows may did = by (pe_of event) refl may did
    where
      by : (o : Option ℕ) → pe_of event ≡ o → MatchOption o (IsComplete w.board.database) (λ p. IsSome (enabled step pack unpack w event p))
          → MatchOption o (MayDecide w.board w'.board entries × (w' ≡ record w { board = w'.board })) (λ p. (w', entries) ≡ or_nothing w (enabled step pack unpack w event p))
          → MatchOption o (length c.looks ≡ length w'.pes) (λ p. KnowsBut w' c p (put_into w event) entries)
      by None of m d = knows.counted ∙ sym (ap (λ (v : WorldView C A). length v.pes) d.1)
      by (Some p) of m d = knows_rest w event p (w', entries) (stays_after w w' event p entries of m d) c knows

  -- there are as many PEs as before
  pub still_counted : (w w' : WorldView C A) (event : Event) (entries : List TraceEntry) (c : ChoicesView) → Knows w c → IsEnabled step pack unpack w event
      → Happens step pack unpack w event (w', entries) → length c.looks ≡ length w'.pes
  still_counted w w' event entries c knows may did = by (pe_of event) (rest_known w w' event entries c knows may did)
    where
      by : (o : Option ℕ) → MatchOption o (length c.looks ≡ length w'.pes) (λ p. KnowsBut w' c p (put_into w event) entries) → length c.looks ≡ length w'.pes
      by None e = e
      by (Some p) k = k.counted

  -- the event that was drawn is chosen; and any event is where none was, or where it is not enabled
  pub drawn_chosen : (bias : Bias) (at : Turn C A) (event : Event) (state : ℕ) → (Some event, state) ≡ drawn bias at → IsChosen step pack unpack bias at event
  drawn_chosen bias at event state e =
      subst (λ (o : Option Event). IfSome o (λ chosen. IsEnabled step pack unpack at.world chosen → event ≡ chosen)) (ap (λ (d : Option Event × ℕ). d.0) e) (λ may. refl)

  pub none_chosen : (bias : Bias) (at : Turn C A) (event : Event) (state : ℕ) → (None, state) ≡ drawn bias at → IsChosen step pack unpack bias at event
  none_chosen bias at event state e =
      subst (λ (o : Option Event). IfSome o (λ chosen. IsEnabled step pack unpack at.world chosen → event ≡ chosen)) (ap (λ (d : Option Event × ℕ). d.0) e) tt

  pub off_chosen : (bias : Bias) (at : Turn C A) (event other : Event) (state : ℕ) → (Some other, state) ≡ drawn bias at → ¬ (IsEnabled step pack unpack at.world other)
      → IsChosen step pack unpack bias at event
  off_chosen bias at event other state e off =
      subst (λ (o : Option Event). IfSome o (λ chosen. IsEnabled step pack unpack at.world chosen → event ≡ chosen))
      (ap (λ (d : Option Event × ℕ). d.0) e) (λ may. absurd (off may))

  -- what is known after a step was taken, of which the last step tells
  pub taken_rest : (before after : CourseView C A) (event : Event) (made : Made) (taken : Bool) (P : Type 0) (c : ChoicesView) → Knows before.world c → taken ≡ true
      → MatchBool taken (TakesStep step pack unpack before event after) P → slice_get after.steps (length after.steps - 1) ≡ Some made
      → MatchOption (pe_of event) (length c.looks ≡ length after.world.pes) (λ p. KnowsBut after.world c p (put_into before.world event) made.1)
  taken_rest before after event made true P c knows is (by, (entries, split, may, did)) got =
      let same : made ≡ (event, entries) = last_is before.steps after.steps (event, entries) made split got in
      subst (λ (m : Made). MatchOption (pe_of event) (length c.looks ≡ length after.world.pes) (λ p. KnowsBut after.world c p (put_into before.world event) m.1)) (sym same)
      (rest_known before.world after.world event entries c knows may did)
  taken_rest before after event made false P c knows is m got = cc

  pub found_counted : (before after : CourseView C A) (found : Bool) (P : Type 0) (c : ChoicesView) → Knows before.world c → found ≡ true
      → MatchBool found (TakesSome step pack unpack before after) P → length c.looks ≡ length after.world.pes
  found_counted before after true P c knows is (event, (by, (entries, split, may, did))) = still_counted before.world after.world event entries c knows may did
  found_counted before after false P c knows is m = cc

  -- so far these steps were drawn; and one more was
  pub drawn_next : (bias : Bias) (at : Turn C A) (before after : CourseView C A) (old new : ChooserView) (taken : Bool) (P : Type 0) → old.bias ≡ bias
      → DrawsAll step pack unpack bias at before.steps (turn_of before.world old) → taken ≡ true
      → MatchBool taken ((made : Made) × (after.steps ≡ before.steps ++ made ∷ []) × Draws step pack unpack old.bias (turn_of before.world old) made (turn_of after.world new)) P
      → DrawsAll step pack unpack bias at after.steps (turn_of after.world new)
  drawn_next bias at before after old new true P same all is (made, split, one) =
      let by_bias = subst (λ (b : Bias). Draws step pack unpack b (turn_of before.world old) made (turn_of after.world new)) same one in
      subst (λ (s : List Made). DrawsAll step pack unpack bias at s (turn_of after.world new)) (sym split)
      (draws_more bias at before.steps (turn_of before.world old) made (turn_of after.world new) all by_bias)
  drawn_next bias at before after old new false P same all is m = cc

-- what the rest of a draw knows depends only on the values
pub rest_at : {C A : Type 0} (event : Event) (w w' : WorldView C A) (c c' : ChoicesView) (q q' : Option ℕ) (es es' : List TraceEntry) → w' ≡ w → c' ≡ c → q' ≡ q → es' ≡ es
    → MatchOption (pe_of event) (length c.looks ≡ length w.pes) (λ p. KnowsBut w c p q es)
    → MatchOption (pe_of event) (length c'.looks ≡ length w'.pes) (λ p. KnowsBut w' c' p q' es')
rest_at {C} {A} event w w' c c' q q' es es' ew ec eq ee rest =
    let one = subst (λ (v : WorldView C A). MatchOption (pe_of event) (length c.looks ≡ length v.pes) (λ p. KnowsBut v c p q es)) (sym ew) rest in
    let two = subst (λ (v : ChoicesView). MatchOption (pe_of event) (length v.looks ≡ length w'.pes) (λ p. KnowsBut w' v p q es)) (sym ec) one in
    let three = subst (λ (v : Option ℕ). MatchOption (pe_of event) (length c'.looks ≡ length w'.pes) (λ p. KnowsBut w' c' p v es)) (sym eq) two in
    subst (λ (v : List TraceEntry). MatchOption (pe_of event) (length c'.looks ≡ length w'.pes) (λ p. KnowsBut w' c' p q' v)) (sym ee) three
