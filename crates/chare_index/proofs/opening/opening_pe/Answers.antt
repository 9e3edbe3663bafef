use Rattle.std.proofs.Common.{rules}
use Rattle.chare_index.proofs.opening.opening_pe.Goals as goal

pub returns : goal.returns
returns c = search rules
