use Rattle.lb_certificates.specs.Certificate.{NoneAbove}
use Rattle.merged_refinement.proofs.present.none_above.Given as goal

abbrev pub invariant-loop-b : goal.invariant-loop-b
invariant-loop-b g l = NoneAbove l.loads l.b l.limit l.cuts
