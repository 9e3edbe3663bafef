use Rattle.workload_run.proofs.Asking.{asked_all, asked_next, asked_none, stopped_at}
use Rattle.workload_run.proofs.dumps.write_dumps.Goals as goal

pub loop-snapshot-preserved : goal.loop-snapshot-preserved
loop-snapshot-preserved g c =
    asked_next c.args.prefix.now c.args.rounds.now c.loop-snapshot.snapshot-index c.loop-snapshot-item.result _ c.loop-snapshot-test.true
    c.loop-snapshot-item.is _ _ _ c.loop-snapshot.invariant c.in_default.ensures.asked

pub returns-in-Err : goal.returns-in-Err
returns-in-Err g c = record {
  asked = stopped_at c.args.prefix.now c.args.rounds.now c.loop-snapshot.snapshot-index c.loop-snapshot-item.result _
      c.loop-snapshot-test.true c.loop-snapshot-item.is _ _ _ c.args.format _ c.step.ensures.value c.in-Err.ensures.fault
      c.loop-snapshot.invariant c.in-Err.ensures.asked;
}

pub loop-snapshot-init : goal.loop-snapshot-init
loop-snapshot-init g c = asked_none (g.F.DumpFiles.names c.args.files.now)

pub returns : goal.returns
returns g c = record {
  asked = asked_all c.args.prefix.now c.args.rounds.now c.loop-snapshot.snapshot-index (g.F.DumpFiles.names c.args.files.now)
      (g.F.DumpFiles.names c.loop-snapshot.files) c.loop-snapshot-test.false c.loop-snapshot.invariant;
}
