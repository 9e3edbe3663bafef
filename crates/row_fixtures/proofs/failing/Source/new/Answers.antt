use Rattle.std.proofs.Common.{refl}
use Rattle.row_fixtures.proofs.failing.Source.new.Goals as goal

pub returns-clause-fails : goal.returns-clause-fails
returns-clause-fails c = refl
