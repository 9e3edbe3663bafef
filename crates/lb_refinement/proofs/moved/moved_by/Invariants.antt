use Rattle.std.proofs.Common.{◌≡◌, ◌*◌, ◌≤◌}
use Rattle.chare_index.specs.declared.limits.TheConstants.Limits.{STATE_BYTES}
use Rattle.lb_refinement.proofs.MovedSums.{moved_below}
use Rattle.lb_refinement.proofs.moved.moved_by.Given as goal

abbrev pub invariant-loop-i : goal.invariant-loop-i
invariant-loop-i l =
    record {
      sum : l.moved ≡ moved_below l.sizes l.cuts l.names l.i;
      small : l.moved ≤ l.i * STATE_BYTES;
    }
