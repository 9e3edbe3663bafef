use Rattle.schedules.proofs.Choosers.{settle_more}
use Rattle.schedules.proofs.choices.Choices.settle.Goals as goal

pub loop-entry-preserved : goal.loop-entry-preserved
loop-entry-preserved g c =
    settle_more c.args.self.now c.loop-entry.self c.settle_one.new.self c.args.p c.loop-entry.entry-index c.args.entries.now c.entry-item.result
    c.loop-entry-test.true c.entry-item.is c.loop-entry.invariant c.settle_one.ensures.only
