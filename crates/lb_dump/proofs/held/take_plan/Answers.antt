use Rattle.std.proofs.Common.{◌∙◌, inl, inr, ap, length, arith}
use Rattle.std.proofs.lemmas.Result.{err_from_is_err_and}
use Rattle.lb_dump.proofs.PlanSteps.{plan_breaks, plan_ends}
use Rattle.lb_dump.proofs.held.take_plan.Goals as goal

pub returns-in_err-plan-clause-broken : goal.returns-in_err-plan-clause-broken
returns-in_err-plan-clause-broken g c =
    let held = c.args.held.now in
    let p = err_from_is_err_and c.from_residual-in_err-plan.result c.from_residual-in_err-plan.ensures.1 in
    rw (p.1, p.2) (elim c.in_err-plan.ensures.broken [
      | inl memory ↦ inl memory
      | inr broken ↦ inr (plan_breaks g.row.A.Denot held.head held.loads.items held.sizes.items held.plan held.moves.items held.begun.items
          c.args.bytes.now c.args.head c.requires.held c.requires.headed c.requires.all c.requires.wide c.requires.begun
          c.split_at.result.0.now c.split_at.result.1.now c.deref-2.result.now _ c.split_at.ensures.by_index.0
          (c.deref-2.ensures.value ∙ c.in_ok-extend_from_slice.ensures.items) broken)
    ])

pub returns : goal.returns
returns g c =
    let held = c.args.held.now in
    record {
      taken = rw c.clear.ensures.items (plan_ends g.row.A.Denot held.head held.loads.items held.sizes.items held.plan held.moves.items
          held.begun.items c.args.bytes.now c.args.head c.requires.held c.requires.headed c.requires.all c.requires.wide c.requires.begun
          c.in_ok-plan.plan c.split_at.result.0.now c.split_at.result.1.now c.deref-2.result.now c.split_at.ensures.by_index.0
          (c.deref-2.ensures.value ∙ c.in_ok-extend_from_slice.ensures.items) c.in_default.not-Begun c.in_ok-plan.ensures.plan);
      shorter = omega (arith, ap length c.deref.ensures.value);
      broken = tt;
    }
