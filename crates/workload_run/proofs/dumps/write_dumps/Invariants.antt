use Rattle.std.proofs.Common.{take}
use Rattle.workload_run.specs.Dumping.{AsksFor, file_names}
use Rattle.workload_run.proofs.dumps.write_dumps.Given as goal

abbrev pub invariant-loop-snapshot : goal.invariant-loop-snapshot
invariant-loop-snapshot g l =
    AsksFor (g.F.DumpFiles.names l.initial.files) (g.F.DumpFiles.names l.files) (file_names l.prefix (take l.snapshot-index l.rounds))
