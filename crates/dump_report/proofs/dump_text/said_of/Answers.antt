use Rattle.std.proofs.Common.{◌++◌, ◌∙◌, ap, append_assoc}
use Rattle.load_report.specs.Text.{present_text}
use Rattle.dump_report.proofs.dump_text.said_of.Goals as goal

pub returns-clause-text : goal.returns-clause-text
returns-clause-text g c =
    let present = present_text c.args.style c.args.name.now c.args.dump.now.snapshot in
    let past = c.in_ok-push_past.ensures in
    let plans = rw c.snapshot-snapshot.ensures.value at c.in_ok-push_numbers.ensures.plans in
    let first = rw (c.snapshot-snapshot.ensures.value, c.new-text.ensures.items) at c.in_ok-push_present.ensures.text in
    record {
      past = past.0;
      recorded = past.1;
      plans = plans.0;
      planned = plans.1;
      printed = plans.2 ∙ ap (λ t. t ++ plans.0) (past.2 ∙ ap (λ t. t ++ past.0) first) ∙ append_assoc present past.0 plans.0;
    }
