use Rattle.std.proofs.Common.{◌≡◌, ◌≤◌, length, take}
use Rattle.zero_tails.specs.Tails.{kept_of}
use Rattle.zero_tails.proofs.trimmed.kept_len.Given as goal

abbrev pub invariant-loop-kept : goal.invariant-loop-kept
invariant-loop-kept l = record { within : l.kept ≤ length l.bytes; left : kept_of (take l.kept l.bytes) ≡ kept_of l.bytes }

abbrev pub decreases-loop-kept : goal.decreases-loop-kept
decreases-loop-kept l = l.kept
