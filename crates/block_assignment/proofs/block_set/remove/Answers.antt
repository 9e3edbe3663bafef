use Rattle.std.proofs.Common.{◌∙◌, arith, w64}
use Rattle.std.proofs.lemmas.Nat.Bits.{bit_at_clear_same, bit_at_clear_other}
use Rattle.block_assignment.proofs.BlockBits.{written_here, written_others}
use Rattle.block_assignment.proofs.block_set.remove.Goals as goal

pub returns-clause-here : goal.returns-clause-here
returns-clause-here c =
    written_here c.args.set.now c.args.b _ (omega arith) ∙ bit_at_clear_same w64 _ _ (omega arith)

pub returns-clause-others : goal.returns-clause-others
returns-clause-others c = λ k other.
    written_others c.args.set.now c.args.b _ k (omega arith) other (λ i inside apart. bit_at_clear_other w64 _ _ (omega arith) i inside apart)
