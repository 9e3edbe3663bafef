use Rattle.std.proofs.Common.{◌≡◌, ◌+◌, ◌*◌, ◌^◌, ◌≤◌, slice_index}
use Rattle.lb_certificates.specs.Naming.{total}
use Rattle.chain_refinement.specs.Refinement.{cut_cost}
use Rattle.chain_refinement.proofs.costs.cost_of_cuts.Given as goal

abbrev pub invariant-loop-b : goal.invariant-loop-b
invariant-loop-b g l =
    record {
      cost_is : l.cost ≡ total l.b (λ b. cut_cost l.claim.sizes l.claim.names b (slice_index l.cuts (b + 1)));
      small : l.cost ≤ l.b * 2 ^ 64;
    }
