use Rattle.lb_lists.proofs.OneRefinedRun.{same_decision, same_kind, same_places}
use Rattle.lb_lists.proofs.laws.one_refined_run.Goals as goal

pub returns : goal.returns
returns c = record { same_kind = same_kind; same_decision = same_decision; same_places = same_places }
