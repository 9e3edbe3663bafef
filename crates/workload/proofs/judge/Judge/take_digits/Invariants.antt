use Rattle.std.proofs.Common.{◌^◌, ◌<◌, ◌≤◌, length}
use Rattle.workload.specs.declared.form.TheConstants.{DIGITS}
use Rattle.workload.specs.declared.judge.Spot.TheVariants.{Number}
use Rattle.workload.specs.Machine.{Reaches, state_of}
use Rattle.workload.proofs.judge.Judge.take_digits.Given as goal

abbrev pub invariant-loop-byte : goal.invariant-loop-byte
invariant-loop-byte g l = record {
  taken : Reaches l.bytes (state_of l.self) l.rest (record (state_of l.self) { spot = Number l.value l.digits });
  few : l.digits ≤ DIGITS;
  small : l.value < 10 ^ l.digits;
}

abbrev pub decreases-loop-byte : goal.decreases-loop-byte
decreases-loop-byte g l = length l.rest
