use Rattle.std.proofs.Common.{All, take}
use Rattle.lb_lists.specs.Scales.{IsMeasured}
use Rattle.lb_lists.proofs.scaling.first_fault.Given as goal

abbrev pub invariant-loop-load : goal.invariant-loop-load
invariant-loop-load l = All IsMeasured (take l.load-index l.loads)
