use Rattle.std.proofs.Common.{◌≡◌, ◌++◌, map, drop, slice_index}
use Rattle.run_checkpoint.proofs.tallies.collect.Given as goal

abbrev pub invariant-loop-line : goal.invariant-loop-line
invariant-loop-line g l =
    l.amounts.items ++ map (λ line. slice_index line.items l.i) (drop l.line-index l.lines) ≡ map (λ line. slice_index line.items l.i) l.lines
