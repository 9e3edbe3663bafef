-- What a list of events is refused for.
use Rattle.std.proofs.Common.{◌≡◌, inl, inr, ℕ, List, Option, Result, Ok, Err, ap}
use Rattle.std.specs.Prelude.{IfErr, IsErrOf}
use Rattle.std.specs.Result.{IsErrAnd}
use Rattle.std.specs.Io.KnownBytes.{Consumes, IsAtEnd}
use Rattle.event_lists.specs.Faults.{IsFault}
use Rattle.event_lists.specs.Reading.{IsRefusal}
use Rattle.event_lists.specs.declared.error.EventListError.{EventListError}
use Rattle.event_lists.specs.declared.error.EventListError.TheVariants as Why
use Rattle.schedule_run.specs.Lists.{IsListFault, RefusesList}
use Rattle.schedule_run.specs.declared.list_fault.ListFault.TheVariants.{Faulty}

-- the fault of a text
listed : (text : List ℕ) (e : EventListError) → IsFault text e → IsListFault text (Faulty e)
listed text (Why.Form k) fault = fault
listed text (Why.Limit k) fault = fault
listed text Why.TooLong fault = fault
listed text Why.OutOfMemory fault = tt

-- what was read to its end is refused
pub list_refused : (bytes rest : Option (List ℕ)) (text : List ℕ) (e : EventListError) → Consumes bytes rest text → IsAtEnd rest → IsRefusal text e
    → RefusesList bytes rest (Faulty e)
list_refused bytes rest text e consumed ended (inl (is, needs)) = inl (inr (ap Faulty is))
list_refused bytes rest text e consumed ended (inr fault) = inr (text, consumed, ended, listed text e fault)

-- what holds of any error
pub on_error : {T E : Type 0} (r : Result T E) (Q : E → Type 0) (P : Type 0) → P → IfErr r (λ e. Q e → P)
on_error (Ok x) Q P holds = tt
on_error (Err e) Q P holds = λ _. holds

-- an error passed on is the one that the call returned
pub passed_on : {T E : Type 0} (r : Result T E) (error e : E) (P : Type 0) → IsErrAnd r (λ f. f ≡ error) → (error ≡ e → P) → IsErrOf r e → P
passed_on (Ok x) error e P is then failed = absurd is
passed_on (Err f) error e P is then failed = then (cc)
