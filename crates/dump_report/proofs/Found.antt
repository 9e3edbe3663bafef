-- The fault because of which there is no report.
use Rattle.std.proofs.Common.{ℕ, List, Option, subst}
use Rattle.dump_report.specs.Reports.{IsFoundFault}
use Rattle.lb_replay.specs.Ended.{HasUnwritten}
use Rattle.lb_replay.specs.declared.ended.Ended.{Ended}

-- it is not that the writer failed
pub not_unwritten : (A : Type 0) (bytes rest : Option (List ℕ)) (fault : Ended) (P : Type 0) → IsFoundFault A bytes rest fault → HasUnwritten fault → P
not_unwritten A bytes rest fault P found is = absurd (subst (λ e. IsFoundFault A bytes rest e) is found)
