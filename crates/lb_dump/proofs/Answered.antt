-- The one answer to a text, and to bytes with a fault.
use Rattle.std.proofs.Common.{◌≡◌, ◌⊎◌, inl, inr, ℕ, List, Result, Ok, Err}
use Rattle.std.specs.Prelude.{MatchResult}
use Rattle.dump_format.specs.Dumps.{Dumped}
use Rattle.dump_format.specs.Faults.{IsFault}
use Rattle.dump_format.specs.Text.{IsText}
use Rattle.dump_format.specs.declared.error.DumpError.{DumpError}
use Rattle.dump_format.specs.declared.error.DumpError.TheVariants.{OutOfMemory}
use Rattle.dump_format.proofs.OneText.{no_fault, one_dump, one_fault}
use Rattle.lb_dump.specs.Reading.{IsAnswer}

-- the answer to a text is its dump, or out of memory
pub answered : {A : Type 0} (d : Dumped A) (text : List ℕ) (result : Result (Dumped A) DumpError) → IsAnswer text result → IsText d text
    → MatchResult result (λ read. read ≡ d) (λ e. e ≡ OutOfMemory)
answered d text (Ok read) answer is = one_dump read d text answer is
answered d text (Err e) (inl memory) is = memory
answered d text (Err e) (inr fault) is = absurd (no_fault d text e is fault)

-- the answer to bytes with a fault is that fault, or out of memory
pub refused : {A : Type 0} (text : List ℕ) (e : DumpError) (result : Result (Dumped A) DumpError) → IsAnswer text result → IsFault text e
    → MatchResult result (λ _. ⊥) (λ f. (f ≡ OutOfMemory) ⊎ (f ≡ e))
refused text e (Ok read) answer fault = no_fault read text e answer fault
refused text e (Err f) (inl memory) fault = inl memory
refused text e (Err f) (inr other) fault = inr (one_fault text f e other fault)
