use Rattle.std.proofs.Common.{refl}
use Rattle.merged_chains.proofs.WalkedParts.{walked_none}
use Rattle.merged_chains.proofs.walk.Walk.new.Goals as goal

pub returns-clause-begins : goal.returns-clause-begins
returns-clause-begins c = λ blocks. walked_none blocks (record { limit = c.args.limit; closed = 0; filled = 0 }) refl refl
