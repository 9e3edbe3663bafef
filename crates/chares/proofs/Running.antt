-- What an element is after one more entry, and after a handler that was refused.
use Rattle.std.proofs.Common.{◌≡◌, ◌≢◌, ℕ, List, [], ◌∷◌, ◌++◌, length, Option, Result, Ok, Err, OnOk, OnErr, IfOk, IfErr, true, false, ap, subst, ◌∙◌}
use Rattle.std.specs.Result.{IsErr, IsErrAnd, is_err}
use Rattle.chares.specs.Elements.{ElementView, note_of, ran}
use Rattle.chares.specs.Letters.{Done, input_of}
use Rattle.chares.specs.Posting.{Posting, posted, with_entry}
use Rattle.chares.specs.Progressing.{entered, charged, ending, ended, note_at, resumed_mark, synced_mark}
use Rattle.chares.specs.Steps.{Step}
use Rattle.chares.specs.declared.chare.Effect.{Effect}
use Rattle.chares.specs.declared.entry.Entry.{Entry}
use Rattle.chares.specs.declared.note.Mark.{Mark}
use Rattle.chares.specs.declared.note.Note.{Note}
use Rattle.chares.specs.declared.progress.Ending.{Ending}
use Rattle.chares.specs.declared.progress.Progress.{Progress}
use Rattle.chares.specs.declared.trace_entry.TraceEntry.{TraceEntry}
use Rattle.chares.specs.declared.sends.SendError.{SendError}
use Rattle.chares.specs.declared.sends.SendError.TheVariants.{OutOfMemory}

-- a call that was refused
module _ {T E : Type 0} where
  pub no_answer : (r : Result T E) (P : Type 0) → IsErr r → OnOk r P
  no_answer (Ok x) P h = cc
  no_answer (Err e) P h = tt

  pub no_note : (r : Result T E) (P : T → Type 0) → IsErr r → IfOk r P
  no_note (Ok x) P h = cc
  no_note (Err e) P h = tt

  pub whatever : (r : Result T E) (P : Type 0) → P → OnErr r P
  whatever (Ok x) P h = tt
  whatever (Err e) P h = h

  -- what is owed for an answer, or for a refusal, where it is known which of the two it was
  pub where_refused : (r : Result T E) (P : Type 0) → true ≡ is_err r → OnErr r P → P
  where_refused (Ok x) P b h = cc
  where_refused (Err e) P b h = h

  pub where_answered : (r : Result T E) (P : Type 0) → false ≡ is_err r → OnOk r P → P
  where_answered (Ok x) P b h = h
  where_answered (Err e) P b h = cc

pub memory : {T : Type 0} (R : SendError → Type 0) (r : Result T SendError) → IsErrAnd r (λ error. error ≡ OutOfMemory) → IfErr r (λ error. error ≢ OutOfMemory → R error)
memory R (Ok x) h = tt
memory R (Err e) h = λ k. absurd (k h)

-- the parts of an element that do not change
pub same_parts : {C : Type 0} (el now : ElementView C) (chare : C) (journal : List Done) (marks : List Mark) → chare ≡ el.chare → journal ≡ el.journal → marks ≡ el.marks → el ≡ now
    → record el { chare = chare; journal = journal; marks = marks } ≡ now
same_parts el now chare journal marks c j m e =
    ap (λ v. record el { chare = v; journal = journal; marks = marks }) c
    ∙ ap (λ v. record el { journal = v; marks = marks }) j
    ∙ ap (λ v. record el { marks = v }) m
    ∙ e

-- a handler's answer, and what it means for the element
pub record Ran {C : Type 0} (step : Step C) (pack : C → List ℕ) (el : ElementView C) (n pe : ℕ) (done : Done) (entry : Entry (List ℕ))
    (chare : C) (effect : Effect) (work : Progress) (end : Ending) (note : Option Note) : Type 0 where
  pub input_is : entry ≡ input_of done
  pub state_is : chare ≡ (step el.chare el.index n entry).state
  pub effect_is : effect ≡ (step el.chare el.index n entry).effect
  pub work_is : work ≡ charged (entered el.progress done) effect.units
  pub end_is : end ≡ ending work effect
  pub note_is : note ≡ note_at work el.index (length (pack chare)) pe end

module _ {C : Type 0} (step : Step C) (pack : C → List ℕ) (el now : ElementView C) (n m pe : ℕ) (done : Done) (entry : Entry (List ℕ))
    (chare : C) (effect : Effect) (work : Progress) (end : Ending) (note : Option Note)
    (same : el ≡ now) (all : n ≡ m) (x : Ran step pack el n pe done entry chare effect work end note) where
  pub note_after : note ≡ note_of step pack now m pe done
  note_after = cc

  pub element_after : (journal : List Done) (progress : Progress) (marks : List Mark)
      → journal ≡ el.journal ++ done ∷ [] → progress ≡ ended work end → marks ≡ el.marks ++ (resumed_mark pe done ++ synced_mark note)
      → record { index = el.index; chare = chare; journal = journal; progress = progress; marks = marks } ≡ ran step pack now m pe done
  element_after journal progress marks j p k = cc

-- what is posted, and why a handler is refused, as the call's own array and posting have it
module _ {C : Type 0} {P : Type 0} (el now : ElementView C) (n m : ℕ) (s before : Posting P) (entry : Entry (List ℕ)) (rep : TraceEntry)
    (same : el ≡ now) (all : n ≡ m) (logged : s ≡ with_entry before rep) where
  pub refused_after : (refuses : C → ℕ → ℕ → ℕ → Entry (List ℕ) → SendError → Type 0) (error : SendError)
      → (error ≢ OutOfMemory → refuses el.chare el.index n s.count entry error) → error ≢ OutOfMemory → refuses now.chare now.index m before.count entry error
  refused_after refuses error h k =
      subst (λ (v : ElementView C). refuses v.chare v.index m before.count entry error) same
      (subst (λ (v : ℕ). refuses el.chare el.index v before.count entry error) all
      (subst (λ (v : Posting P). refuses el.chare el.index n v.count entry error) logged (h k)))

  pub sends_after : (step : Step C) (t : Posting P) → t ≡ posted s (step el.chare el.index n entry).sends
      → t ≡ posted (with_entry before rep) (step now.chare now.index m entry).sends
  sends_after step t h =
      h
      ∙ ap (λ v. posted v (step el.chare el.index n entry).sends) logged
      ∙ ap (λ v. posted (with_entry before rep) (step el.chare el.index v entry).sends) all
      ∙ ap (λ v. posted (with_entry before rep) (step v.chare v.index m entry).sends) same
