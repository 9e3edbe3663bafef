use Rattle.std.proofs.lemmas.Result.{on_ok_weaker}
use Rattle.dump_report.proofs.Plans.{both_said}
use Rattle.dump_report.proofs.dump_text.push_both.Goals as goal

pub returns-clause-both : goal.returns-clause-both
returns-clause-both g c =
    let beside = c.in_ok-push_beside.ensures.beside in
    on_ok_weaker c.push_within.result (λ within.
    both_said g.row.A.Denot c.args.style c.args.name.now c.args.snapshot.now c.args.tolerance c.args.pes c.args.text.now.items
    c.push_beside.new.text.items c.push_within.new.text.items beside.0 within.0 beside.1 within.1 beside.2 within.2) c.push_within.ensures.within
