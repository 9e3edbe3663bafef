use Rattle.std.proofs.Common.{rules, take_all}
use Rattle.std.proofs.lemmas.List.Sums.{fold_more}
use Rattle.heat_run.proofs.ending.joined_all.Goals as goal

pub loop-cell-preserved : goal.loop-cell-preserved
loop-cell-preserved c = search (rules, fold_more)

pub returns : goal.returns
returns c = search (rules, take_all)
