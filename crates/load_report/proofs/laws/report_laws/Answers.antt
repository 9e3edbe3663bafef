use Rattle.load_report.proofs.PlannedLoads.{planned_greatest}
use Rattle.load_report.proofs.RefinedLoads.{refined_greatest}
use Rattle.load_report.proofs.laws.report_laws.Goals as goal

pub returns : goal.returns
returns g c = record { planned_greatest = planned_greatest; refined_greatest = refined_greatest }
