use Rattle.std.proofs.Common.{◌≡◌, ◌++◌, take}
use Rattle.std.specs.String.{string_bytes}
use Rattle.schedule_run.specs.Seeds.{fault_lines, faults_among}
use Rattle.schedule_run.proofs.seeds.push_faults.Given as goal

abbrev pub invariant-loop-i : goal.invariant-loop-i
invariant-loop-i g l = record {
  lines : string_bytes l.text ≡ string_bytes l.initial.text ++ fault_lines 1 (take l.i l.verdicts);
  faults : l.faults ≡ faults_among (take l.i l.verdicts);
}
