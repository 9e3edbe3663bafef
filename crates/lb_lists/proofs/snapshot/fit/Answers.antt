use Rattle.lb_lists.proofs.Greatest.{within_limit}
use Rattle.lb_lists.proofs.snapshot.fit.Goals as goal

pub returns : goal.returns
returns c = within_limit c.args.bytes.now c.greatest.result _ c.greatest.ensures.bounds c.greatest.ensures.least
