use Rattle.std.proofs.Common.{◌≡◌, ◌-◌, length, slice_index, arith, ap, subst, ◌∙◌}
use Rattle.std.specs.List.{between, zip}
use Rattle.lb_lists.specs.RefinedClaims.{RefinedClaimed}
use Rattle.lb_lists.proofs.HeightRows.{one_more_row}
use Rattle.lb_lists.proofs.refined_checking.heights_from.Goals as goal

pub loop-b-preserved : goal.loop-b-preserved
loop-b-preserved g c =
    let h = c.loop-b.invariant in
    let row = subst (λ (k : RefinedClaimed). c.in_ok-steps.steps.items ≡ between (slice_index k.step_starts (c.loop-b.b - 1))
    (slice_index k.step_starts c.loop-b.b) (zip k.step_places k.step_rises)) c.claim.view_is c.in_ok-steps.ensures in
    record {
      rows = c.in_ok-push.ensures.items ∙ one_more_row c.args.claim.now.step_starts
          (zip c.args.claim.now.step_places c.args.claim.now.step_rises) c.loop-b.b c.loop-b.rows.items c.new.result h.from
          (omega (arith, c.loop-b-test.true, ap (λ (k : RefinedClaimed). length k.step_starts) c.claim.view_is)) h.rows (c.new.ensures.value ∙ row);
      from = omega (arith, h.from);
    }
