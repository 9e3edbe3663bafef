use Rattle.std.proofs.Common.{◌≡◌, ◌*◌, ◌≤◌, slice_index}
use Rattle.chare_index.specs.declared.limits.TheConstants.Limits.{STATE_BYTES}
use Rattle.lb_certificates.specs.Naming.{block_cost, naming_cost}
use Rattle.any_order.proofs.moved.moved_by.Given as goal

abbrev pub invariant-loop-b : goal.invariant-loop-b
invariant-loop-b l =
    (l.moved ≡ naming_cost l.b (block_cost l.sizes l.cuts) l.names) × (l.moved ≤ slice_index l.cuts l.b * STATE_BYTES)
