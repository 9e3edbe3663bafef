use Rattle.std.specs.List.{zip}
use Rattle.lb_certificates.proofs.BlockCosts.{Stands}
use Rattle.lb_certificates.proofs.listed_costs.write_listed_costs.Given as goal

abbrev pub invariant-loop-i : goal.invariant-loop-i
invariant-loop-i l = Stands (zip l.bytes l.places) l.i l.costs
