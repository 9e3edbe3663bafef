use Rattle.std.proofs.lemmas.Result.{IfOk-weaker}
use Rattle.lb_replay.proofs.RefinedTexts.{printable_from_reordering}
use Rattle.lb_replay.proofs.simulation.text_in_any_order.Goals as goal

pub refined_text-requires : goal.refined_text-requires
refined_text-requires g c =
    let s = c.args.snapshot.now in
    rw c.get.ensures.value (printable_from_reordering s.loads s.sizes c.args.pes c.args.tolerance c.in-Ok.decision c.in-Ok.ensures.reordering)

pub returns-in-Ok-clause-text : goal.returns-in-Ok-clause-text
returns-in-Ok-clause-text g c =
    IfOk-weaker c.refined_text.result _ _ (λ text printed. record {
      decision = c.in-Ok.decision;
      reordering = c.in-Ok.ensures.reordering;
      no_more = c.in-Ok.ensures.no_more;
      printed = printed;
    }) (rw c.get.ensures.value at c.refined_text.ensures.text)
