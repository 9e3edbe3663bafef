use Rattle.lb_any_order.proofs.Cases.{least_certified}
use Rattle.lb_any_order.proofs.refining.fewest_of_all.Goals as goal

pub reorder-requires : goal.reorder-requires
reorder-requires g c =
    let s = c.args.snapshot.now in
    record {
      certified = rw c.in_ok-least.ensures.copied (least_certified s.loads s.sizes c.args.pes c.args.tolerance c.args.refined.now c.requires.refined);
    }
