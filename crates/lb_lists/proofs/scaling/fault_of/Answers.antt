use Rattle.std.proofs.Common.{◌∙◌, sym}
use Rattle.lb_lists.proofs.Ticks.{infinite_wrong, nan_wrong, negative_wrong, nothing_wrong, tested_above, tested_below}
use Rattle.lb_lists.proofs.scaling.fault_of.Goals as goal

pub returns-then-is_nan : goal.returns-then-is_nan
returns-then-is_nan c = nan_wrong c.args.load (sym c.is_nan.ensures.value ∙ c.if-is_nan.true)

pub returns-then-load : goal.returns-then-load
returns-then-load c = negative_wrong c.args.load (tested_below c.args.load c.if-load.true)

pub returns-then-is_infinite : goal.returns-then-is_infinite
returns-then-is_infinite c = infinite_wrong c.args.load (sym c.is_infinite.ensures.value ∙ c.if-is_infinite.true) (tested_above c.args.load c.if-load.false)

pub returns : goal.returns
returns c =
    nothing_wrong c.args.load (sym c.is_nan.ensures.value ∙ c.if-is_nan.false) (tested_above c.args.load c.if-load.false) (sym c.is_infinite.ensures.value ∙ c.if-is_infinite.false)
