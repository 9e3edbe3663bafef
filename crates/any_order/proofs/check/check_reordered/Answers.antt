use Rattle.std.proofs.lemmas.Result.{on_ok_weaker}
use Rattle.lb_certificates.proofs.LeastDivisions.{least_from_certified}
use Rattle.any_order.proofs.Verdicts.{accepts_exactly, fewest_where_right, peak_where_right}
use Rattle.any_order.proofs.check.check_reordered.Goals as goal

pub returns-clause-exact : goal.returns-clause-exact
returns-clause-exact g c =
    let s = c.args.snapshot.now in
    accepts_exactly s.loads s.sizes c.args.pes c.args.reordered.now c.check_parts.result c.check_parts.ensures.right c.check_parts.ensures.first_flaw

pub returns-clause-peak : goal.returns-clause-peak
returns-clause-peak g c =
    let s = c.args.snapshot.now in
    on_ok_weaker c.check_parts.result (peak_where_right s.loads s.sizes c.args.pes c.args.reordered.now) c.check_parts.ensures.right

pub returns-clause-least : goal.returns-clause-least
returns-clause-least g c =
    let s = c.args.snapshot.now in
    on_ok_weaker c.check_parts.result (λ right. least_from_certified s.loads c.args.pes c.args.reordered.now.least right.least) c.check_parts.ensures.right

pub returns-clause-fewest : goal.returns-clause-fewest
returns-clause-fewest g c =
    let s = c.args.snapshot.now in
    fewest_where_right s.loads s.sizes c.args.pes c.args.reordered.now c.check_parts.result c.check_parts.ensures.paired c.check_parts.ensures.right
