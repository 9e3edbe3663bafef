use Rattle.speed_partition.proofs.TimedOnce.{only_answer}
use Rattle.speed_partition.proofs.threads.divide_by_speeds_with.Goals as goal

pub returns-clause-as_divide : goal.returns-clause-as_divide
returns-clause-as_divide g c =
    only_answer c.args.chain.now c.args.pes.now c.division_by.result c.division_by.ensures.chosen
