-- What Act comes to on a parcel that was taken out of the hand.
use Rattle.pup_pack.specs.declared.error.PupError.{PupError}
use Rattle.std.proofs.Common.{◌≡◌, ℕ, List, Option, [], ◌∷◌, Some, None, MatchOption, option_map, IsSome, is_some, true, false, Result, Ok, Err, IsOk, OnErr, IfErr, refl, ap, sym, subst, Bool, not, if◌then◌else◌, ◌∙◌}
use Rattle.std.specs.Option.{option_map_or}
use Rattle.std.specs.Result.{IsErr}
use Rattle.chares.specs.Elements.{ElementView, PackedView}
use Rattle.chares.specs.Letters.{LetterView}
use Rattle.chares.specs.Steps.{Step}
use Rattle.chares.specs.declared.carried.Carried.TheVariants.{Letter, Element}
use Rattle.chares.specs.declared.progress.Progress.{Progress}
use Rattle.chares.specs.declared.sends.SendError.{SendError}
use Rattle.pe_state.specs.declared.acted.Acted.{Acted}
use Rattle.pe_state.specs.declared.acted.Acted.TheVariants.{Installed}
use Rattle.chares.specs.Posting.{traced}
use Rattle.chares.specs.declared.trace_entry.TraceEntry.{TraceEntry}
use Rattle.chares.specs.declared.trace_entry.TraceEntry.TheVariants as Trace
use Rattle.pe_state.specs.Acts.{Acts, Traces}
use Rattle.pe_state.specs.Pes.{PeView, Item, Parcel, Acting, installed, passing, executed, on_letter, on_element, on_parcel, installing, acting, acting_on, acted_of, pe_after, trace_of, held, has_started}
use Rattle.pe_state.specs.Refusals.{RefusesStep, RefusesAct, RefusesParcel}
use Rattle.pe_state.specs.Rooms.{found}
use Rattle.chares.specs.Elements.{Refuses}
use Rattle.pe_state.specs.declared.error.StepError.{StepError}
use Rattle.pe_state.specs.declared.error.StepError.TheVariants.{OutOfMemory}
use Rattle.pe_state.proofs.Keeping.{no_answer, no_value}
use Rattle.pe_state.proofs.Traces.{traced_none}

-- The PE v has the item x in its hand, which is this parcel and this look.
pub record Holds {C : Type 0} (pe v : PeView C) (x : Item) (parcel : Parcel) (look : Option ℕ) : Type 0 where
  pub view_is : pe ≡ v
  pub in_hand : v.hand ≡ Some x
  pub parcel_is : x.parcel ≡ parcel
  pub look_is : x.address ≡ look

pub held_again : {C : Type 0} (pe v : PeView C) (h : Option Item) (x : Item) (parcel : Parcel) (look : Option ℕ) → Holds pe v x parcel look
    → pe ≡ held (record v { hand = h }) parcel look
held_again pe v h x parcel look i =
    i.view_is
    ∙ ap (λ y. record v { hand = y }) i.in_hand
    ∙ ap (λ p. held v p x.address) i.parcel_is
    ∙ ap (λ a. held v parcel a) i.look_is

pub after_same : {C : Type 0} (pe pe2 : PeView C) (a b : Option (Acting C)) → pe ≡ pe2 → a ≡ b → pe_after pe a ≡ pe_after pe2 b
after_same pe pe2 a b e f = ap (λ p. pe_after p a) e ∙ ap (pe_after pe2) f

not_true : (b : Bool) → not b ≡ true → b ≡ false
not_true true h = cc
not_true false h = refl

not_false : (b : Bool) → not b ≡ false → b ≡ true
not_false true h = refl
not_false false h = cc

-- an element that was found, and has started
pub starts : {C : Type 0} (v : PeView C) (e : ℕ) (el : ElementView C) (p : Progress) → found e v.room ≡ Some el → p ≡ el.progress → not p.started ≡ false → has_started v e ≡ true
starts v e el p at s h = ap (λ o. option_map_or (λ el. el.progress.started) o false) at ∙ sym (ap (λ x. x.started) s) ∙ not_false p.started h

module _ {C : Type 0} (step : Step C) (pack : C → List ℕ) (unpack : List ℕ → Result (C × ℕ) PupError) where
  passing_without : (v : PeView C) (h : Option Item) (l : LetterView) (look : Option ℕ) → passing v l look ≡ passing (record v { hand = h }) l look
  passing_without v h l None = refl
  passing_without v h l (Some q) = refl

  letter_without : (v : PeView C) (h : Option Item) (l : LetterView) (look : Option ℕ) (f : Option (ElementView C))
      → on_letter step pack v l look f ≡ on_letter step pack (record v { hand = h }) l look f
  letter_without v h l look None = passing_without v h l look
  letter_without v h l look (Some el) = refl

  -- nothing in the hand
  pub idle : (pe v : PeView C) → v ≡ pe → None ≡ v.hand → acting step pack unpack pe ≡ None
  idle pe v e none = ap (acting step pack unpack) (sym e) ∙ ap (acting_on step pack unpack v) (sym none)

  -- an element that has started executes its letter, and no other does
  pub waits : (v : PeView C) (l : LetterView) (look : Option ℕ) (f : Option (ElementView C)) (el : ElementView C) (p : Progress)
      → f ≡ Some el → p ≡ el.progress → not p.started ≡ true → on_letter step pack v l look f ≡ None
  waits v l look f el p e s h = ap (on_letter step pack v l look) e
      ∙ ap (λ b. if b then Some (executed step pack v l) else None) (sym (ap (λ x. x.started) s) ∙ not_true p.started h)

  pub runs : (v : PeView C) (l : LetterView) (look : Option ℕ) (f : Option (ElementView C)) (el : ElementView C) (p : Progress)
      → f ≡ Some el → p ≡ el.progress → not p.started ≡ false → on_letter step pack v l look f ≡ Some (executed step pack v l)
  runs v l look f el p e s h = ap (on_letter step pack v l look) e
      ∙ ap (λ b. if b then Some (executed step pack v l) else None) (sym (ap (λ x. x.started) s) ∙ not_false p.started h)

  installing_without : (v : PeView C) (h : Option Item) (p : PackedView) (r : Result (C × ℕ) PupError)
      → installing step pack unpack v p r ≡ installing step pack unpack (record v { hand = h }) p r
  installing_without v h p (Ok x) = refl
  installing_without v h p (Err e) = refl

  element_without : (v : PeView C) (h : Option Item) (p : PackedView) (f : Option (ElementView C))
      → on_element step pack unpack v p f ≡ on_element step pack unpack (record v { hand = h }) p f
  element_without v h p None = installing_without v h p (unpack p.bytes)
  element_without v h p (Some el) = refl

  in_hand : (pe v : PeView C) (x : Item) (parcel : Parcel) (look : Option ℕ) → Holds pe v x parcel look → acting step pack unpack pe ≡ on_parcel step pack unpack v parcel look
  in_hand pe v x parcel look i =
      ap (acting step pack unpack) i.view_is
      ∙ ap (acting_on step pack unpack v) i.in_hand
      ∙ ap (λ p. on_parcel step pack unpack v p x.address) i.parcel_is
      ∙ ap (on_parcel step pack unpack v parcel) i.look_is

  pub acting_on_letter : (pe v : PeView C) (h : Option Item) (x : Item) (l : LetterView) (look : Option ℕ) → Holds pe v x (Letter l) look
      → acting step pack unpack pe ≡ on_letter step pack (record v { hand = h }) l look (found l.to v.room)
  acting_on_letter pe v h x l look i = in_hand pe v x (Letter l) look i ∙ letter_without v h l look (found l.to v.room)

  pub acting_on_element : (pe v : PeView C) (h : Option Item) (x : Item) (p : PackedView) (look : Option ℕ) → Holds pe v x (Element p) look
      → acting step pack unpack pe ≡ on_element step pack unpack (record v { hand = h }) p (found p.index v.room)
  acting_on_element pe v h x p look i = in_hand pe v x (Element p) look i ∙ element_without v h p (found p.index v.room)

  -- an element whose bytes unpack is installed, where none stands with its index
  pub installs : (v : PeView C) (p : PackedView) (f : Option (ElementView C)) (chare : C) (k : ℕ) → f ≡ None → unpack p.bytes ≡ Ok (chare, k)
      → on_element step pack unpack v p f ≡ Some (record { acted = Installed; pe = installed v p chare; trace = Trace.Installed p.index ∷ [] })
  installs v p f chare k none e = ap (on_element step pack unpack v p) none ∙ ap (installing step pack unpack v p) e

  whole_installs : (v : PeView C) (p : PackedView) (r : Result (C × ℕ) PupError) → IsOk r → IsSome (installing step pack unpack v p r)
  whole_installs v p (Ok x) h = refl
  whole_installs v p (Err e) h = cc

  pub may_install : (v : PeView C) (p : PackedView) (f : Option (ElementView C)) → f ≡ None → IsOk (unpack p.bytes) → IsSome (on_element step pack unpack v p f)
  may_install v p f none h = subst (λ (g : Option (ElementView C)). IsSome (on_element step pack unpack v p g)) (sym none) (whole_installs v p (unpack p.bytes) h)

  -- where one stands nothing is enabled
  pub stands_already : (v : PeView C) (p : PackedView) (f : Option (ElementView C)) → is_some f ≡ true → on_element step pack unpack v p f ≡ None
  stands_already v p (Some el) h = refl
  stands_already v p None h = cc

pub same_hand : {C : Type 0} (pe v : PeView C) (hand : Option Item) → v ≡ pe → hand ≡ None → None ≡ v.hand → record v { hand = hand } ≡ pe
same_hand {C} pe v hand e new old = ap (λ h. record v { hand = h }) (new ∙ old) ∙ e

-- an option that is seen as none is none
pub lacking : {X T : Type 0} (now : X → T) (x : Option X) (f : Option T) → option_map now x ≡ f → is_some x ≡ false → f ≡ None
lacking now (Some x) f e h = cc
lacking now None f e h = sym e

-- what holds however a call ends holds where it is refused
pub whatever : {T E : Type 0} (r : Result T E) (P : Type 0) → P → OnErr r P
whatever (Ok x) P h = tt
whatever (Err e) P h = h

-- A refusal is what the handler of the element of the letter may answer, or for an element out of memory.
pub refuses_letter : {C : Type 0} (refuses : Refuses C) (pe v : PeView C) (h : Option Item) (x : Item) (l : LetterView) (look : Option ℕ) → Holds pe v x (Letter l) look
    → RefusesAct refuses pe ≡ RefusesParcel refuses (record v { hand = h }) (Letter l)
refuses_letter refuses pe v h x l look i =
    ap (RefusesAct refuses) i.view_is
    ∙ ap {B = SendError → Type 0} (λ (hand : Option Item) (error : SendError). MatchOption hand ⊥ (λ x. RefusesParcel refuses v x.parcel error)) i.in_hand
    ∙ ap (RefusesParcel refuses v) i.parcel_is

memory_is_reason : (R : SendError → Type 0) (error : StepError) → error ≡ OutOfMemory → RefusesStep R error
memory_is_reason R error e = subst (λ (v : StepError). RefusesStep R v) (sym e) tt

pub memory_refuses : {T : Type 0} (R : SendError → Type 0) (r : Result T StepError) → IfErr r (λ error. error ≡ OutOfMemory) → IfErr r (RefusesStep R)
memory_refuses R (Ok x) h = tt
memory_refuses R (Err error) h = memory_is_reason R error h

-- What a call returns: that nothing was to be done, that it did what was, or an error.
module _ {C : Type 0} (acting : Option (Acting C)) (before after : PeView C) where
  pub did_nothing : acting ≡ None → after ≡ before → Acts (Ok None) acting before after
  did_nothing none same = record { answer = sym (ap acted_of none); ok = same ∙ sym (ap (pe_after before) none); err = tt; enabled = tt }

  pub did : (a : Acting C) → acting ≡ Some a → after ≡ a.pe → Acts (Ok (Some a.acted)) acting before after
  did a some new = record { answer = sym (ap acted_of some); ok = new ∙ sym (ap (pe_after before) some); err = tt; enabled = tt }

  pub did_not : (result : Result (Option Acted) StepError) → IsErr result → IsSome acting → after ≡ before → Acts result acting before after
  did_not result is_err some same = record { answer = no_value _ _ is_err; ok = no_answer _ _ is_err; err = whatever _ _ same; enabled = whatever _ _ some }

-- So for its trace.
module _ {T E : Type 0} (tracing : Bool) (before after : List TraceEntry) where
  pub traced_nothing : {C : Type 0} (x : T) (acting : Option (Acting C)) → acting ≡ None → after ≡ before → Traces {T = T} {E = E} (Ok x) tracing (trace_of acting) before after
  traced_nothing x acting none same = record { ok = same ∙ traced_none tracing before ∙ sym (ap (λ a. traced tracing before (trace_of a)) none); err = tt }

  pub traced_so : {C : Type 0} (x : T) (acting : Option (Acting C)) (a : Acting C) → acting ≡ Some a → after ≡ traced tracing before a.trace
      → Traces {T = T} {E = E} (Ok x) tracing (trace_of acting) before after
  traced_so x acting a some new = record { ok = new ∙ sym (ap (λ a. traced tracing before (trace_of a)) some); err = tt }

  pub untraced : (result : Result T E) (entries : List TraceEntry) → IsErr result → after ≡ before → Traces result tracing entries before after
  untraced result entries is_err same = record { ok = no_answer _ _ is_err; err = whatever _ _ same }
