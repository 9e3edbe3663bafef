-- A dump that comes from a reader, piece by piece.
use Rattle.std.proofs.Common.{◌≡◌, ℕ, ◌⊎◌, inl, inr, List, [], ◌++◌, length, Option, Some, None, Result, Ok, Err, ap, ◌∙◌, refl, sym, subst}
use Rattle.std.specs.Prelude.{IfErr, IfOk, IfSome, IsErrOf, OnOk, ⊤}
use Rattle.std.specs.Result.{IsErr, IsErrAnd}
use Rattle.std.specs.Io.KnownBytes.{Consumes, IsAtEnd}
use Rattle.std.proofs.KnownBytes.{Consumes-trans}
use Rattle.std.proofs.lemmas.List.{append-nil}
use Rattle.dump_format.specs.Dumps.{Dumped}
use Rattle.dump_format.specs.Faults.{IsBroken, IsFault, IsTextFault, fault_found}
use Rattle.dump_format.specs.Fields.{dump as fields_of_dump}
use Rattle.dump_format.specs.declared.error.DumpError.{DumpError}
use Rattle.dump_format.specs.declared.error.DumpError.TheVariants.{OutOfMemory, Read}
use Rattle.dump_format.proofs.Judging.{broken_stays}
use Rattle.dump_format.proofs.OnlyFaults.{only_text_faults}
use Rattle.lb_dump.specs.Reading.{Progress, Feeds, EndsReading, EndsText, IsAnswer}

-- a fault that a byte brings is the first one of the text
pub fault_by : (text : List ℕ) (e : DumpError) → IsBroken text e → IsFault text e
fault_by text e broken = ap (λ v. fault_found v (length text)) broken

-- the answer to a first piece that is refused is its fault
pub fed_fault : (A : Type 0) (text : List ℕ) (e : DumpError) (start new : Progress) → start ≡ Ok [] → Feeds start text (Err e) new → IsAnswer {A = A} text (Err e)
fed_fault A text e start new fresh feeds =
    let fed_first : Feeds (Ok []) text (Err e) new = subst (λ p. Feeds p text (Err e) new) fresh feeds in
    elim fed_first.0 [
      | inl memory ↦ inl memory
      | inr broken ↦ inr (fault_by text e broken)
    ]

-- a fault of a piece is the fault of all bytes that the reader had, or memory was refused
pub fed_broken : (old now after : Option (List ℕ)) (text piece : List ℕ) (dump new : Progress) (e : DumpError) → dump ≡ Ok text
    → Consumes old now text → Consumes now after piece → Feeds dump piece (Err e) new → IfSome old (λ bytes. (e ≡ OutOfMemory) ⊎ IsFault bytes e)
fed_broken None now after text piece dump new e is_text so_far came fed = tt
fed_broken (Some bytes) now after text piece dump new e is_text so_far came fed =
    all_of after (Consumes-trans (Some bytes) now after text piece so_far came)
  where
    at_text : ((e ≡ OutOfMemory) ⊎ IsBroken (text ++ piece) e) × (new ≡ Err e)
    at_text = subst (λ (p : Progress). Feeds p piece (Err e) new) is_text fed

    all_of : (after : Option (List ℕ)) → Consumes (Some bytes) after (text ++ piece) → (e ≡ OutOfMemory) ⊎ IsFault bytes e
    all_of None came = absurd came
    all_of (Some rest) came =
        elim at_text.0 [
          | inl none ↦ inl none
          | inr broken ↦ inr (fault_by bytes e (subst (λ t. IsBroken t e) (sym came) (broken_stays fields_of_dump (text ++ piece) rest e broken)))
        ]

-- the fault of all bytes, or out of memory, or that the reader failed
pub faulted : (old : Option (List ℕ)) (result : Result ⊤ DumpError) (e : DumpError) → result ≡ Err e
    → IfSome old (λ bytes. (e ≡ OutOfMemory) ⊎ IsFault bytes e) → IfErr result (λ f. IfSome old (λ bytes. (f ≡ Read) ⊎ ((f ≡ OutOfMemory) ⊎ IsFault bytes f)))
faulted None (Ok a) e is fault = tt
faulted None (Err f) e is fault = tt
faulted (Some bytes) result e is fault = subst (λ (r : Result ⊤ DumpError). IfErr r (λ f. (f ≡ Read) ⊎ ((f ≡ OutOfMemory) ⊎ IsFault bytes f))) (sym is) (inr fault)

-- no piece brings the fault of a reader that failed
pub no_read_fault : (text piece : List ℕ) (dump new : Progress) (e : DumpError) (P : Type 0) → dump ≡ Ok text → Feeds dump piece (Err e) new → e ≡ Read → P
no_read_fault text piece dump new e P is_text came read =
    elim (subst (λ (p : Progress). Feeds p piece (Err e) new) is_text came).0 [
      | inl memory ↦ absurd (let h : Read ≡ OutOfMemory = sym read ∙ memory in cc)
      | inr broken ↦ absurd (subst IsTextFault read (only_text_faults (text ++ piece) e broken))
    ]

-- a piece without a fault is put at the end of the text
pub fed : (text piece : List ℕ) (dump new : Progress) → dump ≡ Ok text → Feeds dump piece (Ok tt) new → new ≡ Ok (text ++ piece)
fed text piece dump new is_text step = (subst (λ (p : Progress). Feeds p piece (Ok tt) new) is_text step).1

-- the answer at the end of a text is an answer to it
pub answer_at_end : {A : Type 0} (text : List ℕ) (result : Result (Dumped A) DumpError) → EndsText text result → IsAnswer text result
answer_at_end text (Ok d) ends = ends
answer_at_end text (Err e) ends = inr (ap (λ v. fault_found v (length text)) ends.1 ∙ ap Some (sym ends.0))

-- the fault of all bytes is an answer to them, unless the reader failed
pub fault_answers : (A : Type 0) (old : Option (List ℕ)) (e : DumpError)
    → IfSome old (λ bytes. (e ≡ Read) ⊎ ((e ≡ OutOfMemory) ⊎ IsFault bytes e))
    → IfSome old (λ bytes. (◌≡◌ {A = Result (Dumped A) DumpError} (Err e) (Err Read)) ⊎ IsAnswer {A = A} bytes (Err e))
fault_answers A None e fault = tt
fault_answers A (Some bytes) e (inl failed) = inl (ap Err failed)
fault_answers A (Some bytes) e (inr fault) = inr fault

-- the answer at the end of the text is one to all bytes, where the text is all that the reader had
pub all_answered : {A : Type 0} (old new : Option (List ℕ)) (text : List ℕ) (result : Result (Dumped A) DumpError) → Consumes old new text
    → IsAtEnd new → EndsText text result → IfSome old (λ bytes. (result ≡ Err Read) ⊎ IsAnswer bytes result)
all_answered None new text result came end ends = tt
all_answered (Some bytes) None text result came end ends = absurd came
all_answered (Some bytes) (Some rest) text result came end ends =
    let all : bytes ≡ text = came ∙ ap (λ r. text ++ r) end ∙ append-nil text in
    inr (subst (λ t. IsAnswer t result) (sym all) (answer_at_end text result ends))

-- nothing has to hold of an answer where there is none
module _ {T E : Type 0} where
  pub no_answer : (r : Result T E) (P : Type 0) → IsErr r → OnOk r P
  no_answer (Ok x) P h = cc
  no_answer (Err e) P h = tt

  pub no_value : (r : Result T E) (P : T → Type 0) → IsErr r → IfOk r P
  no_value (Ok x) P h = cc
  no_value (Err e) P h = tt

  -- what holds however the call ends
  pub whatever : (r : Result T E) (P : Type 0) → P → OnOk r P
  whatever (Ok x) P h = h
  whatever (Err e) P h = tt

-- an error passed on is the one that the call returned
pub passed_on : {T : Type 0} (r : Result T DumpError) (error e : DumpError) (P : Type 0) → IsErrAnd r (λ f. f ≡ error) → (error ≡ e → P) → IsErrOf r e → P
passed_on (Ok x) error e P is then failed = absurd is
passed_on (Err f) error e P is then failed = then (cc)

-- the end of a text is no failure of the reader
pub no_failure : {A : Type 0} (r : Result (Dumped A) DumpError) (dump : Progress) (text : List ℕ) (P : Type 0) → dump ≡ Ok text → EndsReading dump r → IsErrOf r Read → P
no_failure {A = A} r dump text P is ends failed =
    absurd (let told = (subst (λ (p : Progress). EndsReading {A = A} p (Err Read)) is (subst (λ (a : Result (Dumped A) DumpError). EndsReading dump a) failed ends)).0 in cc)

-- the reader failed, whatever bytes it had
pub read_failed : (old : Option (List ℕ)) → IfSome old (λ bytes. (Read ≡ Read) ⊎ ((Read ≡ OutOfMemory) ⊎ IsFault bytes Read))
read_failed None = tt
read_failed (Some bytes) = inl refl

-- nothing was read yet
pub none_consumed : (bytes : Option (List ℕ)) → Consumes bytes bytes []
none_consumed None = tt
none_consumed (Some bytes) = refl
