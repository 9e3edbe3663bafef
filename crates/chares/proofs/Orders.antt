-- The rounds of an element come in order as it opens, and after one more entry that it may handle.
use Rattle.std.proofs.Common.{◌≡◌, ℕ, zero, suc, ◌+◌, ◌⊎◌, inl, inr, List, [], ◌∷◌, ◌++◌, map, Bool, true, false, zero-add, append-nil, arith, refl, sym, ap, subst, ◌∙◌}
use Rattle.std.specs.Prelude.{not, ◌&&◌, if◌then◌else◌, IfSome, slice_get}
use Rattle.std.specs.List.{range_with_len}
use Rattle.std.proofs.lemmas.Grind.{flat_map-append}
use Rattle.std.proofs.lemmas.List.{append_assoc, map-append}
use Rattle.chares.specs.declared.chare.Effect.{Effect}
use Rattle.chares.specs.declared.entry.Entry.TheVariants.{Letter, Resumption}
use Rattle.chares.specs.declared.note.Mark.{Mark}
use Rattle.chares.specs.declared.note.Mark.TheVariants.{Resumed}
use Rattle.chares.specs.declared.progress.Ending.{Ending}
use Rattle.chares.specs.declared.progress.Ending.TheVariants.{Runs, Syncs, Finishes}
use Rattle.chares.specs.declared.progress.Progress.{Progress}
use Rattle.chares.specs.Elements.{ElementView, opening_element, ran, outcome_of}
use Rattle.chares.specs.Letters.{LetterView, Done}
use Rattle.chares.specs.Progressing.{begun, charged, ending, ended, note_at, synced_mark}
use Rattle.chares.specs.Steps.{Step}
use Rattle.chares.specs.Orders.{Stop, stop_of, stops_until, resumption_of, resumptions, IsStart, IsInOrder, MayHandle}
use Rattle.chares.specs.Orders.Stop.{AtSync, Resumes}

when_true : {X : Type 0} (b : Bool) (x y : X) → b ≡ true → (if b then x else y) ≡ x
when_true true x y h = refl
when_true false x y h = cc

when_false : {X : Type 0} (b : Bool) (x y : X) → b ≡ false → (if b then x else y) ≡ y
when_false true x y h = cc
when_false false x y h = refl

pub range_more : (a n : ℕ) → range_with_len a (n + 1) ≡ range_with_len a n ++ (a + n) ∷ []
range_more a zero = let e : a ≡ a + zero = omega arith in ap (λ v. v ∷ []) e
range_more a (suc n) =
    let e : (a + 1) + n ≡ a + suc n = omega arith in
    let k : range_with_len (a + 1) (n + 1) ≡ range_with_len (a + 1) n ++ (a + suc n) ∷ [] = range_more (a + 1) n ∙ ap (λ v. range_with_len (a + 1) n ++ v ∷ []) e in
    let q : suc n + 1 ≡ suc (n + 1) = omega arith in
    ap (range_with_len a) q ∙ ap (λ v. a ∷ v) k

-- as an element opens
pub in_order_opening : {C : Type 0} (index : ℕ) (chare : C)
    → IsInOrder (opening_element index chare).journal (opening_element index chare).progress (opening_element index chare).marks
in_order_opening index chare = record { first = tt; fresh = λ h. (refl, refl); stops = refl; resumed = refl }

-- the stop at which an element waits, if it does
abbrev pub waiting : Progress → List Stop
waiting p = if p.synced then AtSync (p.round + 1) ∷ [] else []

pub record IsGoing (journal : List Done) (p : Progress) (marks : List Mark) : Type 0 where
  pub first : IfSome (slice_get journal 0) IsStart
  pub started : p.started ≡ true
  pub stops : map stop_of marks ≡ stops_until p.round ++ waiting p
  pub resumed : resumptions journal ≡ range_with_len 0 (p.round + 1)

pub going_of : (journal : List Done) (p : Progress) (marks : List Mark) → IsInOrder journal p marks → p.started ≡ true → IsGoing journal p marks
going_of journal p marks h s =
    record {
      first = h.first;
      started = s;
      stops = h.stops ∙ when_true p.started (stops_until p.round ++ waiting p) [] s;
      resumed = h.resumed ∙ when_true p.started (range_with_len 0 (p.round + 1)) [] s;
    }

pub in_order_of : (journal : List Done) (p : Progress) (marks : List Mark) → IsGoing journal p marks → IsInOrder journal p marks
in_order_of journal p marks h =
    record {
      first = h.first;
      fresh = λ f. absurd (let s = h.started in cc);
      stops = h.stops ∙ sym (when_true p.started (stops_until p.round ++ waiting p) [] h.started);
      resumed = h.resumed ∙ sym (when_true p.started (range_with_len 0 (p.round + 1)) [] h.started);
    }

-- the first entry stays the first
ends_with : {X : Type 0} (xs : List X) (x : X) → [] ≡ xs ++ x ∷ [] → ⊥
ends_with [] x h = cc
ends_with (y ∷ xs) x h = cc

first_start : (journal : List Done) → IfSome (slice_get journal 0) IsStart → IfSome (slice_get (journal ++ Resumption 0 ∷ []) 0) IsStart
first_start [] h = refl
first_start (x ∷ xs) h = h

first_stays : (journal : List Done) (done : Done) → (journal ≡ [] → ⊥) → IfSome (slice_get journal 0) IsStart → IfSome (slice_get (journal ++ done ∷ []) 0) IsStart
first_stays [] done some h = absurd (some refl)
first_stays (x ∷ xs) done some h = h

going_some : (journal : List Done) (p : Progress) (marks : List Mark) → IsGoing journal p marks → journal ≡ [] → ⊥
going_some journal p marks h none =
    ends_with (range_with_len 0 p.round) (0 + p.round) (sym (ap resumptions none) ∙ h.resumed ∙ range_more 0 p.round)

-- a letter
pub going_letter : (journal : List Done) (p : Progress) (marks : List Mark) (l : LetterView) (units : ℕ) → IsGoing journal p marks
    → IsGoing (journal ++ Letter l ∷ []) (charged p units) (marks ++ [])
going_letter journal p marks l units h =
    record {
      first = first_stays journal (Letter l) (going_some journal p marks h) h.first;
      started = h.started;
      stops = ap (map stop_of) (append-nil marks) ∙ h.stops;
      resumed = flat_map-append resumption_of journal (Letter l ∷ []) ∙ (append-nil (resumptions journal) ∙ h.resumed);
    }

-- the start
pub going_start : (journal : List Done) (p : Progress) (marks : List Mark) (pe units : ℕ) → IsInOrder journal p marks → p.started ≡ false
    → IsGoing (journal ++ Resumption 0 ∷ []) (charged (begun p 0) units) (marks ++ Resumed 0 pe ∷ [])
going_start journal p marks pe units h s =
    let none : resumptions journal ≡ [] = h.resumed ∙ when_false p.started (range_with_len 0 (p.round + 1)) [] s in
    let bare : map stop_of marks ≡ [] = h.stops ∙ when_false p.started (stops_until p.round ++ waiting p) [] s in
    record {
      first = first_start journal h.first;
      started = refl;
      stops = map-append stop_of marks (Resumed 0 pe ∷ []) ∙ ap (λ (v : List Stop). v ++ Resumes 0 ∷ []) bare;
      resumed = flat_map-append resumption_of journal (Resumption 0 ∷ []) ∙ ap (λ (v : List ℕ). v ++ 0 ∷ []) none;
    }

stops_more : (r : ℕ) → (stops_until r ++ AtSync (r + 1) ∷ []) ++ Resumes (r + 1) ∷ [] ≡ stops_until (r + 1) ++ []
stops_more r =
    let e : stops_until (suc r) ≡ stops_until (r + 1) = ap stops_until (let k : suc r ≡ r + 1 = omega arith in k) in
    let f : stops_until r ++ AtSync (r + 1) ∷ Resumes (r + 1) ∷ [] ≡ stops_until (suc r) = ap
    (λ (v : ℕ). stops_until r ++ AtSync v ∷ Resumes v ∷ []) (let k : r + 1 ≡ suc r = omega arith in k) in
    append_assoc (stops_until r) (AtSync (r + 1) ∷ []) (Resumes (r + 1) ∷ []) ∙ (f ∙ (e ∙ sym (append-nil (stops_until (r + 1)))))

-- the resumption for the round for which it waits
pub going_resumption : (journal : List Done) (p : Progress) (marks : List Mark) (pe units : ℕ) → IsGoing journal p marks → p.synced ≡ true
    → IsGoing (journal ++ Resumption (p.round + 1) ∷ []) (charged (begun p (p.round + 1)) units) (marks ++ Resumed (p.round + 1) pe ∷ [])
going_resumption journal p marks pe units h s =
    let waits : map stop_of marks ≡ stops_until p.round ++ AtSync (p.round + 1) ∷ [] = h.stops
    ∙ ap (λ (v : List Stop). stops_until p.round ++ v) (when_true p.synced (AtSync (p.round + 1) ∷ []) [] s) in
    let more : range_with_len 0 ((p.round + 1) + 1) ≡ range_with_len 0 (p.round + 1) ++ (p.round + 1) ∷ [] = range_more 0 (p.round + 1)
    ∙ ap (λ (v : ℕ). range_with_len 0 (p.round + 1) ++ v ∷ []) (zero-add (p.round + 1)) in
    record {
      first = first_stays journal (Resumption (p.round + 1)) (going_some journal p marks h) h.first;
      started = refl;
      stops = map-append stop_of marks (Resumed (p.round + 1) pe ∷ []) ∙ (ap (λ (v : List Stop). v ++ Resumes (p.round + 1) ∷ []) waits ∙ stops_more p.round);
      resumed = flat_map-append resumption_of journal (Resumption (p.round + 1) ∷ []) ∙ (ap (λ (v : List ℕ). v ++ (p.round + 1) ∷ []) h.resumed ∙ sym more);
    }

-- only what does not wait begins to wait
pub begins_to_wait : (p : Progress) (e : Effect) → ending p e ≡ Syncs → p.synced ≡ false
begins_to_wait p e h = by e.finished p.finished p.synced e.at_sync h
  where
    by : (f d s a : Bool) → (if f then (if d then Runs else Finishes) else (if a && not s && not d then Syncs else Runs)) ≡ Syncs → s ≡ false
    by f d false a h = refl
    by true true true a h = cc
    by true false true a h = cc
    by false d true true h = cc
    by false d true false h = cc

-- what the effect means
pub going_ended : (journal : List Done) (p : Progress) (marks : List Mark) (index bytes pe : ℕ) (e : Ending) → IsGoing journal p marks
    → (e ≡ Syncs → p.synced ≡ false) → IsGoing journal (ended p e) (marks ++ synced_mark (note_at p index bytes pe e))
going_ended journal p marks index bytes pe Runs h k = record { first = h.first; started = h.started; stops = ap (map stop_of) (append-nil marks) ∙ h.stops; resumed = h.resumed }
going_ended journal p marks index bytes pe Finishes h k = record
    { first = h.first; started = h.started; stops = ap (map stop_of) (append-nil marks) ∙ h.stops; resumed = h.resumed }
going_ended journal p marks index bytes pe Syncs h k =
    let bare : map stop_of marks ≡ stops_until p.round = h.stops
    ∙ (ap (λ (v : List Stop). stops_until p.round ++ v) (when_false p.synced (AtSync (p.round + 1) ∷ []) [] (k refl)) ∙ append-nil (stops_until p.round)) in
    record {
      first = h.first;
      started = h.started;
      stops = map-append stop_of marks (synced_mark (note_at p index bytes pe Syncs)) ∙ ap (λ (v : List Stop). v ++ AtSync (p.round + 1) ∷ []) bare;
      resumed = h.resumed;
    }

in_order_ended : (journal : List Done) (p : Progress) (marks first : List Mark) (index bytes pe : ℕ) (e : Effect)
    → IsGoing journal p (marks ++ first) → IsInOrder journal (ended p (ending p e)) (marks ++ (first ++ synced_mark (note_at p index bytes pe (ending p e))))
in_order_ended journal p marks first index bytes pe e h =
    subst (λ (v : List Mark). IsInOrder journal (ended p (ending p e)) v) (append_assoc marks first (synced_mark (note_at p index bytes pe (ending p e))))
    (in_order_of journal (ended p (ending p e)) ((marks ++ first) ++ synced_mark (note_at p index bytes pe (ending p e)))
    (going_ended journal p (marks ++ first) index bytes pe (ending p e) h (begins_to_wait p e)))

-- what waits has started
pub waits_started : (journal : List Done) (p : Progress) (marks : List Mark) → IsInOrder journal p marks → p.synced ≡ true → p.started ≡ true
waits_started journal p marks h s = by p.started refl
  where
    by : (b : Bool) → p.started ≡ b → p.started ≡ true
    by true t = t
    by false t = let k = (h.fresh t).1 in cc

module _ {C : Type 0} (step : Step C) (pack : C → List ℕ) (el : ElementView C) (n pe : ℕ) where
  abbrev RanInOrder : Done → Type 0
  RanInOrder done = IsInOrder (ran step pack el n pe done).journal (ran step pack el n pe done).progress (ran step pack el n pe done).marks

  resumption_in_order : (round : ℕ) → IsInOrder el.journal el.progress el.marks
      → ((el.progress.started ≡ false) × (round ≡ 0)) ⊎ ((el.progress.synced ≡ true) × (round ≡ el.progress.round + 1)) → RanInOrder (Resumption round)
  resumption_in_order round h (inl k) =
      subst (λ (v : ℕ). RanInOrder (Resumption v)) (sym k.1)
      (in_order_ended (el.journal ++ Resumption 0 ∷ []) _ el.marks (Resumed 0 pe ∷ []) el.index _ pe (outcome_of step pack el n (Resumption 0)).effect
      (going_start el.journal el.progress el.marks pe (outcome_of step pack el n (Resumption 0)).effect.units h k.0))
  resumption_in_order round h (inr k) =
      subst (λ (v : ℕ). RanInOrder (Resumption v)) (sym k.1)
      (in_order_ended (el.journal ++ Resumption (el.progress.round + 1) ∷ []) _ el.marks (Resumed (el.progress.round + 1) pe ∷ []) el.index
      _ pe (outcome_of step pack el n (Resumption (el.progress.round + 1))).effect
      (going_resumption el.journal el.progress el.marks pe (outcome_of step pack el n (Resumption (el.progress.round + 1))).effect.units
      (going_of el.journal el.progress el.marks h (waits_started el.journal el.progress el.marks h k.0)) k.0))

  -- after one more entry that the element may handle
  pub in_order_ran : (done : Done) → IsInOrder el.journal el.progress el.marks → MayHandle el.progress done → RanInOrder done
  in_order_ran (Letter l) h may =
      in_order_ended (el.journal ++ Letter l ∷ []) _ el.marks [] el.index _ pe (outcome_of step pack el n (Letter l)).effect
      (going_letter el.journal el.progress el.marks l (outcome_of step pack el n (Letter l)).effect.units (going_of el.journal el.progress el.marks h may))
  in_order_ran (Resumption round) h may = resumption_in_order round h may
