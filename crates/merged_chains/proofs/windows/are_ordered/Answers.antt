use Rattle.merged_chains.proofs.OrderedWindows.{not_rising}
use Rattle.merged_chains.proofs.windows.are_ordered.Goals as goal

pub returns-then-not-rises : goal.returns-then-not-rises
returns-then-not-rises c = λ ordered. not_rising c.args.lower.now c.if-not-rises.ensures ordered.lower_rises
