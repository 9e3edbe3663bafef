-- Lines that were written, or a prefix of them.
use Rattle.std.proofs.Common.{◌≡◌, inl, inr, ℕ, List, [], length, Option, arith, ap, subst, sym, ◌∙◌}
use Rattle.std.specs.Io.KnownBytes.{Appends}
use Rattle.std.proofs.KnownBytes.{Appends-nil}
use Rattle.std.proofs.lemmas.List.{take_all}
use Rattle.streams.specs.Writing.{WritesPrefix}
use Rattle.workload_run.specs.Statuses.{status_of}
use Rattle.workload_run.specs.Telling.{WritesText}
use Rattle.workload_run.specs.declared.ended.RunEnd.{RunEnd}
use Rattle.workload_run.specs.declared.ended.RunEnd.TheVariants.{OutOfMemory}

-- nothing was written
pub nothing_written : (old new : Option (List ℕ)) (line : List ℕ) → new ≡ old → WritesPrefix old new line
nothing_written old new line same = (0, omega arith, subst (λ now. Appends old now []) (sym same) (Appends-nil old))

-- what was written whole is a prefix
pub whole_prefix : (old new : Option (List ℕ)) (line : List ℕ) → Appends old new line → WritesPrefix old new line
whole_prefix old new line gone = (length line, omega arith, subst (Appends old new) (sym (take_all (length line) line (omega arith))) gone)

-- the status where memory was refused, and what was written then
pub memory_told : (old new : Option (List ℕ)) (line : List ℕ) (ended : RunEnd) (status : ℕ) → status ≡ status_of ended → WritesText line OutOfMemory old new ended
    → (status ≡ 5) × WritesPrefix old new line
memory_told old new line ended status is (inl (end, gone)) = (is ∙ ap status_of end, whole_prefix old new line gone)
memory_told old new line ended status is (inr (end, part)) = (is ∙ ap status_of end, part)
