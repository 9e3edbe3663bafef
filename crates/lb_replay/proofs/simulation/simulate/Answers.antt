use Rattle.lb_replay.proofs.OneTexts.{one_text}
use Rattle.lb_replay.specs.declared.way.Way.TheVariants.{Least}
use Rattle.lb_replay.proofs.simulation.simulate.Goals as goal

pub returns-clause-one_text : goal.returns-clause-one_text
returns-clause-one_text g c = λ bytes text other. one_text g.row.A.Denot c.args.procs Least bytes text other tt
