use Rattle.chain_refinement.proofs.Bounds.{fewest_from_proved}
use Rattle.chain_refinement.proofs.laws.fewest_where_proved.Goals as goal

pub returns : goal.returns
returns c = record { fewest_where_proved = fewest_from_proved }
