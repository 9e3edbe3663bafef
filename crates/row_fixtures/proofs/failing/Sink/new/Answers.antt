use Rattle.std.proofs.Common.{refl}
use Rattle.row_fixtures.proofs.failing.Sink.new.Goals as goal

pub returns-clause-fails_at : goal.returns-clause-fails_at
returns-clause-fails_at g c = refl
