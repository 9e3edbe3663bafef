use Rattle.std.proofs.Common.{◌≡◌, map, Some, take}
use Rattle.lb_database.proofs.lists.pairs_of.Given as goal

abbrev pub invariant-loop-report : goal.invariant-loop-report
invariant-loop-report g l = map Some l.pairs.items ≡ take l.report-index l.reports
