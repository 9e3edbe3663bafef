-- The bytes of a reader, piece by piece.
use Rattle.std.proofs.Common.{◌≡◌, ℕ, ◌+◌, ◌<◌, ◌≤◌, List, [], ◌++◌, length, take, Option, Some, None, Result, Ok, Err, sym, ap, subst, ◌∙◌, refl, arith, length-append, inl, inr, ◌⊎◌}
use Rattle.std.specs.Prelude.{IfErr, IfSome, IsErrOf}
use Rattle.std.specs.Result.{IsErrAnd}
use Rattle.std.specs.Io.KnownBytes.{Consumes, IsAtEnd, Keeps}
use Rattle.std.proofs.lemmas.List.{append-nil}
use Rattle.std.proofs.KnownBytes.{Consumes-nil, Consumes-trans, Consumes-kept}
use Rattle.run_checkpoint.specs.declared.error.CheckpointError.{CheckpointError}
use Rattle.run_checkpoint.specs.declared.error.CheckpointError.TheVariants.{Form, Limit, Long, Read, OutOfMemory}
use Rattle.run_checkpoint.specs.declared.form.TheConstants.{TEXT_BYTES}
use Rattle.run_checkpoint.specs.Text.{CheckpointView}
use Rattle.run_checkpoint.specs.Faults.{IsBodyFault, IsFault, IsPlacesFault, shifted}
use Rattle.run_checkpoint.specs.declared.checkpoint.DecidedRound.{DecidedRound}
use Rattle.workload.specs.declared.error.WorkError.{WorkError}
use Rattle.workload.specs.Faults.{IsFault as IsWorkloadFault}
use Rattle.run_checkpoint.specs.Reading.{IsAnswer, IsReadAnswer, IsReading, IsStop, ReadsToItsEnd}

-- bytes that were read before a reader stopped
abbrev pub Shows : Option (List ℕ) → Option (List ℕ) → CheckpointError → Type 0
Shows old new e = (text : List ℕ) × Consumes old new text × (length text ≤ TEXT_BYTES + 1) × IsStop text e

-- an error is the one that stopped it
pub shown : {T : Type 0} (old new : Option (List ℕ)) (e : CheckpointError) (result : Result T CheckpointError) → IsErrAnd result (λ f. f ≡ e) → Shows old new e
    → IfErr result (λ f. Shows old new f)
shown old new e (Ok x) is shows = tt
shown old new e (Err f) is shows = subst (Shows old new) (sym is) shows

pub failed : (old now new : Option (List ℕ)) (text : List ℕ) → Consumes old now text → Keeps now new → length text ≤ TEXT_BYTES → Shows old new Read
failed old now new text gone kept short = (text, Consumes-kept old now new text gone kept, omega (arith, short), short)

pub no_memory : (old now new : Option (List ℕ)) (text piece : List ℕ) → Consumes old now text → Consumes now new piece → length text + length piece ≤ TEXT_BYTES + 1
    → Shows old new OutOfMemory
no_memory old now new text piece gone more short = (text ++ piece, Consumes-trans old now new text piece gone more, omega (arith, length-append text piece), tt)

pub nothing_read : (old : Option (List ℕ)) → Shows old old OutOfMemory
nothing_read old = ([], Consumes-nil old, omega arith, tt)

pub too_long : (old now new : Option (List ℕ)) (text piece : List ℕ) → Consumes old now text → Consumes now new piece → TEXT_BYTES < length text + length piece
    → length text + length piece ≤ TEXT_BYTES + 1 → Shows old new Long
too_long old now new text piece gone more long short =
    (text ++ piece, Consumes-trans old now new text piece gone more, omega (arith, length-append text piece), omega (arith, length-append text piece))

-- a call that brought no byte
pub nothing_more : (old now new : Option (List ℕ)) (text buf : List ℕ) (len : ℕ) → Consumes old now text → Consumes now new (take len buf) → len ≡ 0 → Consumes old new text
nothing_more old now new text buf len gone came none =
    subst (Consumes old new) (append-nil text) (Consumes-trans old now new text [] gone (subst (λ n. Consumes now new (take n buf)) none came))

-- what a stop says as a result
abbrev pub Readings : Option (List ℕ) → Option (List ℕ) → Result CheckpointView CheckpointError → Type 0
Readings old new result = (bytes : List ℕ) × Consumes old new bytes × (length bytes ≤ TEXT_BYTES + 1) × IsReading bytes result

abbrev pub Known : Option (List ℕ) → Result CheckpointView CheckpointError → Type 0
Known old result = IfSome old (λ bytes. (result ≡ Err Read) ⊎ IsReadAnswer bytes result)

-- the reader stopped before the end
pub stopped_reading : (old new : Option (List ℕ)) (e : CheckpointError) → Shows old new e → Readings old new (Err e)
stopped_reading old new (Form n) (text, gone, short, is) = absurd is
stopped_reading old new (Limit n) (text, gone, short, is) = absurd is
stopped_reading old new Long (text, gone, short, is) = (text, gone, short, inl (refl, is))
stopped_reading old new Read (text, gone, short, is) = (text, gone, short, is)
stopped_reading old new OutOfMemory (text, gone, short, is) = (text, gone, short, tt)

pub stopped_known : (old new : Option (List ℕ)) (e : CheckpointError) → Shows old new e → Known old (Err e)
stopped_known None new e shows = tt
stopped_known (Some bytes) None e shows = absurd shows.1
stopped_known (Some bytes) (Some rest) (Form n) (text, gone, short, is) = absurd is
stopped_known (Some bytes) (Some rest) (Limit n) (text, gone, short, is) = absurd is
stopped_known (Some bytes) (Some rest) Read shows = inl refl
stopped_known (Some bytes) (Some rest) OutOfMemory shows = inr (inl refl)
stopped_known (Some bytes) (Some rest) Long (text, gone, short, is) =
    let long : TEXT_BYTES < length bytes = omega (arith, is, ap length gone, length-append text rest) in
    inr (inr (inl (refl, long)))

pub stopped_end : (new : Option (List ℕ)) (old : Option (List ℕ)) (e : CheckpointError) → Shows old new e → ReadsToItsEnd new (Err e)
stopped_end new old (Form n) (text, gone, short, is) = absurd is
stopped_end new old (Limit n) (text, gone, short, is) = absurd is
stopped_end new old Long shows = tt
stopped_end new old Read shows = tt
stopped_end new old OutOfMemory shows = tt

-- the reader was read to its end
reading_of : (bytes : List ℕ) (result : Result CheckpointView CheckpointError) → length bytes ≤ TEXT_BYTES → IsAnswer bytes result → IsReading bytes result
reading_of bytes (Ok c) short answer = answer
reading_of bytes (Err (Form n)) short (inl none) = absurd (let no : Form n ≡ OutOfMemory = none.0 in cc)
reading_of bytes (Err (Form n)) short (inr fault) = fault
reading_of bytes (Err (Limit n)) short (inl none) = absurd (let no : Limit n ≡ OutOfMemory = none.0 in cc)
reading_of bytes (Err (Limit n)) short (inr fault) = fault
reading_of bytes (Err Long) short (inl none) = absurd (let no : Long ≡ OutOfMemory = none.0 in cc)
reading_of bytes (Err Long) short (inr fault) = fault
reading_of bytes (Err Read) short answer = short
reading_of bytes (Err OutOfMemory) short answer = tt

read_answer : (bytes : List ℕ) (result : Result CheckpointView CheckpointError) → IsAnswer bytes result → IsReadAnswer bytes result
read_answer bytes (Ok c) answer = answer
read_answer bytes (Err e) (inl none) = inl none.0
read_answer bytes (Err e) (inr fault) = inr fault

pub whole_reading : (old new : Option (List ℕ)) (bytes : List ℕ) (result : Result CheckpointView CheckpointError) → Consumes old new bytes → length bytes ≤ TEXT_BYTES
    → IsAnswer bytes result → Readings old new result
whole_reading old new bytes result gone short answer = (bytes, gone, omega (arith, short), reading_of bytes result short answer)

pub whole_known : (old new : Option (List ℕ)) (bytes : List ℕ) (result : Result CheckpointView CheckpointError) → Consumes old new bytes → IsAtEnd new
    → IsAnswer bytes result → Known old result
whole_known None new bytes result gone end_ answer = tt
whole_known (Some all) None bytes result gone end_ answer = absurd gone
whole_known (Some all) (Some rest) bytes result gone end_ answer =
    let same : all ≡ bytes = gone ∙ ap (λ r. bytes ++ r) end_ ∙ append-nil bytes in
    inr (subst (λ t. IsReadAnswer t result) (sym same) (read_answer bytes result answer))

pub whole_end : (new : Option (List ℕ)) (result : Result CheckpointView CheckpointError) → IsAtEnd new → ReadsToItsEnd new result
whole_end new (Ok c) end_ = end_
whole_end new (Err (Form n)) end_ = end_
whole_end new (Err (Limit n)) end_ = end_
whole_end new (Err Long) end_ = tt
whole_end new (Err Read) end_ = tt
whole_end new (Err OutOfMemory) end_ = tt

-- what holds of any error
pub on_error : {T E : Type 0} (r : Result T E) (Q : E → Type 0) (P : Type 0) → P → IfErr r (λ e. Q e → P)
on_error (Ok x) Q P holds = tt
on_error (Err e) Q P holds = λ _. holds

-- an error handed on is the one that the call returned
pub handed_on : {T : Type 0} (r : Result T CheckpointError) (error : CheckpointError) (P : Type 0) → IsErrAnd r (λ f. f ≡ error) → (error ≡ Read → P)
    → IfErr r (λ e. e ≡ Read → P)
handed_on (Ok x) error P is then = tt
handed_on (Err f) error P is then = λ read. then (sym is ∙ read)

pub passed_on : {T : Type 0} (r : Result T CheckpointError) (error : CheckpointError) (P : Type 0) → IsErrAnd r (λ f. f ≡ error) → (error ≡ Read → P)
    → IsErrOf r Read → P
passed_on (Ok x) error P is then failed = absurd is
passed_on (Err f) error P is then failed = then (cc)

-- no fault of a text is that a reader failed
no_work : (before : ℕ) (bytes : List ℕ) (fault : WorkError) → IsWorkloadFault bytes fault → Read ≡ shifted fault before → ⊥
no_work before bytes (WorkError.Form n) has told = cc
no_work before bytes (WorkError.Limit n) has told = cc
no_work before bytes WorkError.Long has told = cc
no_work before bytes WorkError.Read has told = has.1
no_work before bytes WorkError.OutOfMemory has told = cc

no_places : (decided : List DecidedRound) (bytes : List ℕ) → IsPlacesFault decided bytes Read → ⊥
no_places decided bytes (inl bad) = bad
no_places decided bytes (inr behind) =
    elim behind.next [
      | inl bad ↦ no_work (length decided + 2) behind.rest bad.fault bad.has bad.told
      | inr other ↦ other.apart
    ]

no_body : (rounds : ℕ) (bytes : List ℕ) → IsBodyFault rounds bytes Read → ⊥
no_body rounds bytes (inl bad) = bad.next
no_body rounds bytes (inr behind) = no_places behind.value behind.rest behind.next

no_read : (bytes : List ℕ) → IsFault bytes Read → ⊥
no_read bytes (inl long) = let no : Read ≡ Long = long.0 in cc
no_read bytes (inr (short, inl bad)) = bad
no_read bytes (inr (short, inr behind)) = no_body behind.value behind.rest behind.next

-- no text is read as a reader that failed
pub never_failed : (bytes : List ℕ) (result : Result CheckpointView CheckpointError) (P : Type 0) → IsAnswer bytes result → IsErrOf result Read → P
never_failed bytes result P answer is =
    elim (subst (λ (r : Result CheckpointView CheckpointError). IsAnswer bytes r) is answer) [
      | inl none ↦ absurd (let no : Read ≡ OutOfMemory = none.0 in cc)
      | inr fault ↦ absurd (no_read bytes fault)
    ]
