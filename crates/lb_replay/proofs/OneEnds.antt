-- What a check finds is a function of the bytes.
use Rattle.std.proofs.Common.{◌≡◌, ℕ, ◌⊎◌, inl, inr, List, Option, None, Some, refl, sym, ap, ◌∙◌, subst}
use Rattle.std.specs.Prelude.{IfSome}
use Rattle.dump_format.specs.Dumps.{Dumped}
use Rattle.dump_format.specs.Faults.{IsFault}
use Rattle.dump_format.specs.Text.{IsText}
use Rattle.dump_format.specs.declared.error.DumpError.{DumpError}
use Rattle.dump_format.specs.declared.recorded.Recorded.{Recorded}
use Rattle.dump_format.proofs.OneText.{no_fault, one_dump, one_fault}
use Rattle.lb_snapshot.specs.Measured.{Taken}
use Rattle.lb_replay.specs.Verifying.{EndsCheck, IsEnd, IsFailure, IsJudged}
use Rattle.lb_replay.specs.declared.ended.Ended.{Ended}
use Rattle.lb_replay.specs.declared.ended.Ended.TheVariants.{Printed, Dump, Plan, Flawed, NoDecision, WriteFailed}
use Rattle.lb_replay.proofs.OneFlaws.{one_flaw, right_flawless}

-- a snapshot with this decision, or with none
abbrev held : {A : Type 0} → Taken → Option (Recorded A) → Dumped A
held s recorded = record { snapshot = s; recorded = recorded }

-- there is one judgement of a decision
judged_right : {A : Type 0} (s : Taken) (r : Recorded A) (other : Ended) → IsJudged (held s (Some r)) Printed → IsJudged (held s (Some r)) other → Printed ≡ other
judged_right s r Printed right that = refl
judged_right s r (Flawed flaw) right that = absurd (right_flawless s.loads s.sizes r.target r.decision flaw right that)
judged_right s r NoDecision right that = absurd cc
judged_right s r _ right that = absurd that

judged_flawed : {A : Type 0} (s : Taken) (r : Recorded A) (flaw : _) (other : Ended) → IsJudged (held s (Some r)) (Flawed flaw)
    → IsJudged (held s (Some r)) other → Flawed flaw ≡ other
judged_flawed s r flaw Printed this that = absurd (right_flawless s.loads s.sizes r.target r.decision flaw that this)
judged_flawed s r flaw (Flawed other) this that = ap Flawed (one_flaw s.loads s.sizes r.target r.decision flaw other this that)
judged_flawed s r flaw NoDecision this that = absurd cc
judged_flawed s r flaw _ this that = absurd that

judged_none : (A : Type 0) (s : Taken) (other : Ended) → IsJudged {A = A} (held s None) other → NoDecision ≡ other
judged_none A s NoDecision that = refl
judged_none A s Printed that = absurd that
judged_none A s (Flawed flaw) that = absurd that
judged_none A s _ that = absurd that

judged_once : {A : Type 0} (s : Taken) (recorded : Option (Recorded A)) (one other : Ended) → IsJudged (held s recorded) one → IsJudged (held s recorded) other → one ≡ other
judged_once {A = A} s None one other this that = sym (judged_none A s one this) ∙ judged_none A s other that
judged_once s (Some r) Printed other this that = judged_right s r other this that
judged_once s (Some r) (Flawed flaw) other this that = judged_flawed s r flaw other this that
judged_once s (Some r) NoDecision other this that = absurd cc
judged_once s (Some r) _ other this that = absurd this

-- an end is a fault of the bytes, or the judgement of the dump that they are a text of
kinds : (A : Type 0) (bytes : List ℕ) (ended : Ended) → IsEnd A bytes ended
    → ((e : DumpError) × (ended ≡ Dump e) × IsFault bytes e) ⊎ ((d : Dumped A) × IsText d bytes × IsJudged d ended)
kinds A bytes (Dump e) is = inl (e, refl, is)
kinds A bytes _ is = inr is

pub one_end : (A : Type 0) (bytes : List ℕ) (one other : Ended) → IsEnd A bytes one → IsEnd A bytes other → one ≡ other
one_end A bytes one other this that =
    elim (kinds A bytes one this) [
      | inl (e, is, fault) ↦ elim (kinds A bytes other that) [
        | inl (f, also, second) ↦ is ∙ ap Dump (one_fault bytes e f fault second) ∙ sym also
        | inr (d, text, judged) ↦ absurd (no_fault d bytes e text fault)
      ]
      | inr (d, text, judged) ↦ elim (kinds A bytes other that) [
        | inl (f, also, second) ↦ absurd (no_fault d bytes f text second)
        | inr (d2, text2, judged2) ↦
            let same : d2 ≡ d = one_dump d2 d bytes text2 text in
            judged_once d.snapshot d.recorded one other judged (subst (λ x. IsJudged x other) same judged2)
      ]
    ]

-- where the bytes are known, a check ends as they determine, unless memory, the reader or the writer fails
ends_so : (A : Type 0) (bytes : List ℕ) (rest old new : Option (List ℕ)) (result ended : Ended) → EndsCheck A (Some bytes) rest old new result
    → IsEnd A bytes ended → (result ≡ ended) ⊎ IsFailure result
ends_so A bytes rest old new WriteFailed ended ends is = inr (inr (inr refl))
ends_so A bytes rest old new (Dump e) ended ends is =
    elim ends.0.0 [
      | inl read ↦ inr (inr (inl (ap Dump read)))
      | inr (inl none) ↦ inr (inl (ap Dump none))
      | inr (inr fault) ↦ inl (one_end A bytes (Dump e) ended fault is)
    ]
ends_so A bytes rest old new Printed ended ends is = inl (one_end A bytes Printed ended ends.0.1 is)
ends_so A bytes rest old new (Plan e) ended ends is = absurd ends.0.1.2
ends_so A bytes rest old new (Flawed flaw) ended ends is = inl (one_end A bytes (Flawed flaw) ended ends.0.1 is)
ends_so A bytes rest old new NoDecision ended ends is = inl (one_end A bytes NoDecision ended ends.0.1 is)

pub exact : (A : Type 0) (bytes rest old new : Option (List ℕ)) (result : Ended) → EndsCheck A bytes rest old new result
    → IfSome bytes (λ bytes. (ended : Ended) → IsEnd A bytes ended → (result ≡ ended) ⊎ IsFailure result)
exact A None rest old new result ends = tt
exact A (Some bytes) rest old new result ends = λ ended is. ends_so A bytes rest old new result ended ends is
