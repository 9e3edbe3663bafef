use Rattle.std.proofs.Common.{arith}
use Rattle.load_report.proofs.Deviations.{square_small}
use Rattle.load_report.proofs.deviation.square_apart.Goals as goal

pub returns-clause-small : goal.returns-clause-small
returns-clause-small c = square_small c.abs_diff-apart.result (omega (arith, c.abs_diff-apart.ensures, c.requires))
