use Rattle.std.proofs.Common.{Fits, arith, length, rules, w64}
use Rattle.schedule_run.proofs.SeedLines.{faults_counted, faults_fit, lines_written}
use Rattle.schedule_run.proofs.seeds.push_faults.Goals as goal

pub overflow_add-faults : goal.overflow_add-faults
overflow_add-faults g c =
    let at = c.loop-i in
    let room : Fits w64 (length c.args.verdicts.now) = search rules in
    omega (arith, room, faults_fit c.args.verdicts.now at.i _ c.loop-i-test.true at.faults c.in_ok-faults.field-0 at.invariant.faults c.in_ok-faults.ensures.count)

pub loop-i-preserved : goal.loop-i-preserved
loop-i-preserved g c =
    let at = c.loop-i in
    record {
      lines = lines_written c.args.verdicts.now at.i _ c.loop-i-test.true _ _ _ at.invariant.lines c.in_ok-faults.ensures.line;
      faults = faults_counted c.args.verdicts.now at.i _ c.loop-i-test.true at.faults c.in_ok-faults.field-0 at.invariant.faults c.in_ok-faults.ensures.count;
    }
