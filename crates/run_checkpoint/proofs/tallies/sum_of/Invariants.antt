use Rattle.std.proofs.Common.{◌≡◌, ◌+◌, ◌*◌, ◌≤◌, map, drop, slice_index}
use Rattle.std.specs.Prelude.{sum}
use Rattle.run_checkpoint.proofs.tallies.sum_of.Given as goal

abbrev pub invariant-loop-line : goal.invariant-loop-line
invariant-loop-line g l = record {
  total : l.sum + sum (map (λ line. slice_index line.items l.i) (drop l.line-index l.lines)) ≡ sum (map (λ line. slice_index line.items l.i) l.lines);
  few : l.sum ≤ 4294967295 * l.line-index;
}
