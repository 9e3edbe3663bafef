use Rattle.merged_chains.proofs.WalkedParts.{walked_ends, walked_fits}
use Rattle.merged_chains.proofs.laws.walk_law.Goals as goal

pub returns : goal.returns
returns c =
    record {
      ends = λ xs ends blocks walk h. walked_ends xs ends blocks walk h;
      fits = λ xs ends blocks walk h some. walked_fits xs ends blocks walk h some;
    }
