use Rattle.std.proofs.Common.{arith}
use Rattle.block_assignment.proofs.BlockBits.{bit_tested}
use Rattle.block_assignment.proofs.block_set.has.Goals as goal

pub returns : goal.returns
returns c = bit_tested _ _ (omega arith)
