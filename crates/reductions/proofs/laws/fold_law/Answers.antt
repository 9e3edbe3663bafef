use Rattle.reductions.proofs.Trees.{goes_on, goes_on_right, whole_tree}
use Rattle.reductions.proofs.laws.fold_law.Goals as goal

pub returns : goal.returns
returns g c = record { right = goes_on_right g.V.Combines.combined; goes_on = goes_on g.V.Combines.combined; in_order = whole_tree g.V.Combines.combined }
