use Rattle.std.proofs.Common.{rules}
use Rattle.row_fixtures.proofs.worked.is_example.Goals as goal

pub returns-then-eq : goal.returns-then-eq
returns-then-eq g c = search rules
