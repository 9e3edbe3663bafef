use Rattle.std.proofs.Common.{◌≡◌, length, arith, ap, sym, ◌∙◌}
use Rattle.lb_certificates.specs.Naming.{block_cost, naming_cost}
use Rattle.lb_certificates.proofs.BlockSums.{moved_is_cost}
use Rattle.any_order.proofs.moved.moved_by.Goals as goal

pub returns : goal.returns
returns c =
    let all : c.loop-b.b ≡ length c.args.names.now = omega arith in
    record {
      value = c.loop-b.invariant.0 ∙ ap (λ n. naming_cost n (block_cost c.args.sizes.now c.args.cuts.now) c.args.names.now) all
          ∙ sym (moved_is_cost c.args.sizes.now c.args.cuts.now c.args.names.now (length c.args.names.now) c.requires.divides);
    }
