use Rattle.std.proofs.Common.{◌≡◌, ◌++◌, length}
use Rattle.schedules.proofs.leaving.ends_of.Given as goal

abbrev pub invariant-loop-pe : goal.invariant-loop-pe
invariant-loop-pe g l = l.ends.items ++ l.states.items ≡ l.fn.pes.items

abbrev pub decreases-loop-pe : goal.decreases-loop-pe
decreases-loop-pe g l = length l.states.items
