use Rattle.reductions.proofs.Trees.{children, parents}
use Rattle.reductions.proofs.laws.tree_law.Goals as goal

pub returns : goal.returns
returns c = record { children = children; parents = parents }
