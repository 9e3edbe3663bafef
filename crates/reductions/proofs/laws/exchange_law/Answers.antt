use Rattle.reductions.proofs.Results.{exchange_results}
use Rattle.reductions.proofs.laws.exchange_law.Goals as goal

pub returns : goal.returns
returns g c = record { results = exchange_results g.V.Combines.combined }
