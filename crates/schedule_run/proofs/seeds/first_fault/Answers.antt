use Rattle.schedule_run.proofs.SeedLines.{first_taken}
use Rattle.schedule_run.proofs.seeds.first_fault.Goals as goal

pub loop-verdict-preserved : goal.loop-verdict-preserved
loop-verdict-preserved c =
    first_taken c.args.verdicts.now c.loop-verdict.verdict-index _ c.loop-verdict-test.true c.loop-verdict.first c.or-first.result c.loop-verdict.invariant c.or-first.ensures
