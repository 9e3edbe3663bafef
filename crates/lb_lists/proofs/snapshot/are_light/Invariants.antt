use Rattle.std.proofs.Common.{◌≤◌, ◌↔◌, All, take}
use Rattle.chare_index.specs.declared.limits.TheConstants.Limits.{LOAD}
use Rattle.lb_lists.proofs.snapshot.are_light.Given as goal

abbrev pub invariant-loop-units : goal.invariant-loop-units
invariant-loop-units l = (l.bits ≤ LOAD) ↔ All (λ load. load ≤ LOAD) (take l.units-index l.loads)
