-- What a PE keeps through a call: its view where parts stay the same, and its invariant.
use Rattle.std.proofs.Common.{◌≡◌, ◌≢◌, ℕ, ◌<◌, ◌≤◌, List, Option, Result, Ok, Err, OnOk, IfOk, IfErr, sym, ap, subst, ◌∙◌, arith}
use Rattle.std.specs.Result.{IsErr, IsErrAnd}
use Rattle.chares.specs.Elements.{ElementView}
use Rattle.chares.specs.declared.note.Note.{Note}
use Rattle.pe_state.specs.Pes.{PeView, Item, Parcel, held}
use Rattle.pe_state.specs.Refusals.{RefusesStep, step_error_of}
use Rattle.pe_state.specs.Standing.{AreBelow}
use Rattle.pe_state.specs.declared.error.StepError.{StepError}
use Rattle.pe_state.specs.declared.error.StepError.TheVariants.{OutOfMemory}
use Rattle.chares.specs.declared.sends.SendError.{SendError}
use Rattle.chares.specs.declared.sends.SendError.TheVariants as Send
use Rattle.pe_state.proofs.Reasons.{same_reason}

-- these parts are as they were
pub same_view : {C : Type 0} (v now : PeView C) (room : List (ℕ × ElementView C)) (outbox : List Item) (notes : List Note) (count : ℕ)
    → room ≡ v.room → outbox ≡ v.outbox → notes ≡ v.notes → count ≡ v.count → v ≡ now
    → record v { room = room; outbox = outbox; notes = notes; count = count } ≡ now
same_view {C} v now room outbox notes count r o n k e =
    ap (λ x. record v { room = x; outbox = outbox; notes = notes; count = count }) r
    ∙ ap (λ x. record v { outbox = x; notes = notes; count = count }) o
    ∙ ap (λ x. record v { notes = x; count = count }) n
    ∙ ap (λ x. record v { count = x }) k
    ∙ e

pub held_same : {C : Type 0} (pe v now : PeView C) (parcel : Parcel) (look : Option ℕ) → pe ≡ held v parcel look → v ≡ now → pe ≡ held now parcel look
held_same {C} pe v now parcel look h e = h ∙ ap (λ (x : PeView C). held x parcel look) e

-- an outbox that stays, and the place in it that is kept free
pub outbox_below : (pes : ℕ) (old new : List Item) → new ≡ old → AreBelow pes old → AreBelow pes new
outbox_below pes old new e h = subst (λ (x : List Item). AreBelow pes x) (sym e) h

pub place_stays : (len cap len2 cap2 : ℕ) → len2 ≡ len → cap ≤ cap2 → len < cap → len2 < cap2
place_stays len cap len2 cap2 e c h = omega (arith, e, c, h)

-- nothing is owed for an answer that does not come
pub no_answer : {T E : Type 0} (r : Result T E) (P : Type 0) → IsErr r → OnOk r P
no_answer (Ok x) P h = cc
no_answer (Err e) P h = tt

pub no_value : {T E : Type 0} (r : Result T E) (P : T → Type 0) → IsErr r → IfOk r P
no_value (Ok x) P h = cc
no_value (Err e) P h = tt

pub same_error : {T E : Type 0} (P : E → Type 0) (r : Result T E) (error : E) → IsErrAnd r (λ e. e ≡ error) → P error → IfErr r P
same_error {T} {E} P (Ok x) error h p = tt
same_error {T} {E} P (Err e) error h p = subst (λ (v : E). P v) (sym h) p

-- the reason of a step that is out of memory, or whose handler is refused
pub out_of_memory : {T : Type 0} (R : SendError → Type 0) (r : Result T StepError) → IsErrAnd r (λ error. error ≡ OutOfMemory) → IfErr r (RefusesStep R)
out_of_memory R (Ok x) h = tt
out_of_memory R (Err error) h = subst (λ (v : StepError). RefusesStep R v) (sym h) tt

pub refused_so : {T : Type 0} (R : SendError → Type 0) (error : SendError) (r : Result T StepError)
    → IsErrAnd r (λ step. step ≡ step_error_of error) → (error ≢ Send.OutOfMemory → R error) → IfErr r (RefusesStep R)
refused_so R error (Ok x) h k = tt
refused_so R error (Err step) h k = same_reason R error step h k

pub only_memory : {T : Type 0} (r : Result T StepError) → IsErrAnd r (λ error. error ≡ OutOfMemory) → IfErr r (λ error. error ≡ OutOfMemory)
only_memory (Ok x) h = tt
only_memory (Err error) h = h
