-- How long the text of a checkpoint is at most.
use Rattle.std.proofs.Common.{◌≡◌, ℕ, ◌+◌, ◌*◌, ◌^◌, ◌<◌, ◌≤◌, List, [], ◌∷◌, ◌++◌, length, ap, refl, arith, length-append}
use Rattle.std.specs.Prelude.{All, codes}
use Rattle.std.specs.Fmt.{decimal}
use Rattle.std.specs.List.{flat_map}
use Rattle.std.proofs.lemmas.Fmt.{length-decimal-le_wide}
use Rattle.std.proofs.lemmas.List.Elements.{All-head, All-tail}
use Rattle.workload.specs.Text.{IsText, blank_number, newline, workload_text}
use Rattle.run_checkpoint.specs.declared.checkpoint.DecidedRound.{DecidedRound}
use Rattle.run_checkpoint.specs.declared.form.TheConstants.{TEXT_BYTES}
use Rattle.run_checkpoint.specs.Text.{CheckpointView, IsCheckpointText, IsDecided, IsWithin, body_text, checkpoint_text, decided_line, head_line, places_line, round_lines}

short_number : (n : ℕ) → n < 10 ^ 20 → length (decimal n) ≤ 20
short_number n small = length-decimal-le_wide 20 n (omega arith) small (omega arith)

short_head : (r : ℕ) → r < 10 ^ 20 → length (head_line r) ≤ 32
short_head r small =
    let digits = short_number r small in
    let parts = length-append (decimal r) [] in
    let whole = length-append (decimal r ++ []) newline in
    omega (arith, digits, parts, whole)

short_line : (r : ℕ) (d : DecidedRound) → r < 10 ^ 20 → IsDecided d → length (decided_line r d) ≤ 99
short_line r d small is =
    let r_digits = short_number r small in
    let b_digits = short_number d.bottleneck (omega (arith, is.bottleneck)) in
    let m_digits = short_number d.moved (omega (arith, is.moved)) in
    plain (codes "round ") (decimal r) (codes " bottleneck ") (decimal d.bottleneck) (codes " moved ") (decimal d.moved) refl refl refl r_digits b_digits m_digits
  where
    plain : (a r b x m y : List ℕ) → length a ≡ 6 → length b ≡ 12 → length m ≡ 7 → length r ≤ 20 → length x ≤ 20 → length y ≤ 20
        → length ((a ++ r) ++ (b ++ x ++ m ++ y ++ 10 ∷ [])) ≤ 99
    plain a r b x m y one two three four five six = simp length-append (omega arith)

short_lines : (r : ℕ) (decided : List DecidedRound) → r + length decided < 10 ^ 20 → All IsDecided decided → length (round_lines r decided) ≤ 99 * length decided
short_lines r [] small are = omega arith
short_lines r (d ∷ decided) small are =
    let here = short_line r d (omega arith) (All-head IsDecided d decided are) in
    let later = short_lines (r + 1) decided (omega arith) (All-tail IsDecided d decided are) in
    omega (arith, here, later, length-append (decided_line r d) (round_lines (r + 1) decided))

short_fields : (pes : ℕ) (places : List ℕ) → pes ≤ 256 → All (λ p. p < pes) places → length (flat_map blank_number places) ≤ 4 * length places
short_fields pes [] few are = omega arith
short_fields pes (p ∷ places) few are =
    let below : p < pes = All-head (λ (q : ℕ). q < pes) p places are in
    let here : length (decimal p) ≤ 3 = length-decimal-le_wide 3 p (omega arith) (omega (arith, few, below)) (omega (arith, few, below)) in
    let later = short_fields pes places few (All-tail (λ (q : ℕ). q < pes) p places are) in
    omega (arith, here, later, length-append (blank_number p) (flat_map blank_number places))

-- what is written for a checkpoint within its limits, whose workload is not too long, is not too long
pub short_text : (c : CheckpointView) → IsWithin c → IsText c.workload (workload_text c.workload) → length (checkpoint_text c) ≤ TEXT_BYTES
short_text c is text =
    let rounds : length c.decided ≤ 1000 = omega (arith, is.few_rounds, is.workload.few_rounds) in
    let chares : length c.places ≤ 65536 = omega (arith, is.each_chare, is.workload.few_chares) in
    let head = short_head (length c.decided) (omega (arith, rounds)) in
    let lines = short_lines 1 c.decided (omega (arith, rounds)) is.decided in
    let fields = short_fields c.workload.pes c.places is.workload.few_pes is.placed in
    let placed = length-append (flat_map blank_number c.places) newline in
    let a = length-append (head_line (length c.decided)) (body_text c) in
    let b = length-append (round_lines 1 c.decided) (places_line c.places ++ workload_text c.workload) in
    let d = length-append (places_line c.places) (workload_text c.workload) in
    let e = length-append (codes "places") (flat_map blank_number c.places ++ newline) in
    omega (arith, rounds, chares, head, lines, fields, placed, text.short, a, b, d, e)

pub text_is_short : (c : CheckpointView) (bytes : List ℕ) → IsCheckpointText c bytes → length bytes ≤ TEXT_BYTES
text_is_short c bytes is = omega (arith, ap length is.spelled, short_text c is.within is.workload)
