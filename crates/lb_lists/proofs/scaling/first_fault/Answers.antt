use Rattle.std.proofs.Common.{All, arith, subst}
use Rattle.std.proofs.lemmas.List.{take_all}
use Rattle.std.proofs.lemmas.List.Elements.{All-more}
use Rattle.std.specs.Float.{nan}
use Rattle.lb_lists.specs.Scales.{IsMeasured}
use Rattle.lb_lists.proofs.scaling.first_fault.Goals as goal

pub loop-load-preserved : goal.loop-load-preserved
loop-load-preserved c = All-more IsMeasured c.args.loads.now c.loop-load.load-index nan c.loop-load-test.true c.loop-load.invariant c.in_default.ensures

pub returns : goal.returns
returns c = subst (All IsMeasured) (take_all c.loop-load.load-index c.args.loads.now (omega (arith, c.loop-load-test.false))) c.loop-load.invariant
