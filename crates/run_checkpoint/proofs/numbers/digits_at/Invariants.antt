use Rattle.std.proofs.Common.{◌≡◌, ◌^◌, ◌<◌, ◌≤◌, length}
use Rattle.run_checkpoint.specs.declared.form.TheConstants.{DIGITS}
use Rattle.run_checkpoint.specs.Scanning.{digits_at}
use Rattle.run_checkpoint.proofs.numbers.digits_at.Given as goal

abbrev pub invariant-loop-byte : goal.invariant-loop-byte
invariant-loop-byte l =
    (digits_at l.value l.digits l.rest ≡ digits_at 0 0 l.bytes) × (l.digits ≤ DIGITS) × (l.value < 10 ^ l.digits)

abbrev pub decreases-loop-byte : goal.decreases-loop-byte
decreases-loop-byte l = length l.rest
