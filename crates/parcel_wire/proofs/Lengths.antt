-- How many entries a journal has.
use Rattle.std.proofs.Common.{◌≡◌, ℕ, ◌+◌, List, ◌++◌, length, sym, ap, ◌∙◌, length-append}

-- those that are settled, and those that are kept
pub journal_length : {T : Type 0} (all past kept : List T) (settled : ℕ) → length past ≡ settled → all ≡ past ++ kept → settled + length kept ≡ length all
journal_length all past kept settled counted whole = ap (λ n. n + length kept) (sym counted) ∙ sym (length-append past kept) ∙ ap length (sym whole)
