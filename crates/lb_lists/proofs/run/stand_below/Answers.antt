use Rattle.lb_lists.proofs.Greatest.{below_limit}
use Rattle.lb_lists.proofs.run.stand_below.Goals as goal

pub returns : goal.returns
returns c = below_limit c.args.places.now c.greatest.result c.args.procs c.requires c.greatest.ensures.bounds c.greatest.ensures.least
