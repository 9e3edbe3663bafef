use Rattle.std.proofs.Common.{refl}
use Rattle.load_report.specs.Text.{refined_text}
use Rattle.dump_report.proofs.dump_text.push_within.Goals as goal

pub push_refined-requires : goal.push_refined-requires
push_refined-requires g c = rw c.get.ensures.value (c.args.tolerance, c.in_ok-decision.ensures.decided.refined)

pub returns-clause-within : goal.returns-clause-within
returns-clause-within g c = (
  refined_text c.args.style c.args.name.now c.args.snapshot.now c.args.pes c.in_ok-decision.decision,
  record { decision = c.in_ok-decision.decision; refined = c.in_ok-decision.ensures.decided.refined; printed = refl },
  rw c.get.ensures.value at c.in_ok-push_refined.ensures.text,
)
