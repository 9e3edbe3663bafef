use Rattle.merged_refinement.specs.Lists.{AreSingle}
use Rattle.merged_refinement.proofs.present.are_single.Given as goal

abbrev pub invariant-loop-b : goal.invariant-loop-b
invariant-loop-b l =
    AreSingle l.starts l.b l.present.near.now l.present.far.now l.present.first.now l.present.last.now
