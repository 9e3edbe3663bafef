use Rattle.merged_chains.proofs.PartWeights.{first_weights, next_weights}
use Rattle.merged_chains.proofs.laws.weights_law.Goals as goal

pub returns : goal.returns
returns g c =
    record {
      first = λ part p d bl fl h. first_weights part p d bl fl h;
      next = λ before part p d bl fl here there h k bs fs blocks ranges. next_weights before part p d bl fl here there bs fs h k blocks ranges;
    }
