use Rattle.std.proofs.Common.{◌≡◌, take}
use Rattle.schedule_run.specs.Seeds.{fault_of_first}
use Rattle.schedule_run.proofs.seeds.first_fault.Given as goal

abbrev pub invariant-loop-verdict : goal.invariant-loop-verdict
invariant-loop-verdict l = l.first ≡ fault_of_first (take l.verdict-index l.verdicts)
