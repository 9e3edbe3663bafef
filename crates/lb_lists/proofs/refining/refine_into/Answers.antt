use Rattle.std.proofs.Common.{◌≤◌, [], length, arith, ap, refl, subst, sym}
use Rattle.lb_refinement.specs.Refined.{IsRefinedBy}
use Rattle.lb_refinement.specs.declared.nearness.Nearness.TheVariants.{InOrder, Planned}
use Rattle.lb_lists.specs.RefinedRooms.{standing_lists_in, HasRefinedRoom, IsStandingIn}
use Rattle.lb_lists.specs.Rooms.{lists_in}
use Rattle.lb_lists.specs.Refinings.{Told}
use Rattle.lb_lists.specs.Runs.{sizes_of, Listed}
use Rattle.lb_lists.proofs.FlatSteps.{first_steps-length}
use Rattle.lb_lists.proofs.RefinedRuns.{decided_anew, few_stops, kept_whole_told, left_in, near_kept, no_more_told, same_standing, told_as_near, told_as_plan}
use Rattle.lb_lists.proofs.refining.refine_into.Goals as goal

pub returns-in_default-flat_steps-clause-refused : goal.returns-in_default-flat_steps-clause-refused
returns-in_default-flat_steps-clause-refused g c =
    let few : c.args.thousandths ≤ 1000 = c.in-Some.ensures.when.0 refl in
    let room = subst (λ (r : Listed). HasRefinedRoom (length r.loads) c.args.pes (lists_in c.args.room.now)
    (standing_lists_in c.args.standing.now)) c.run.view_is (c.if-not-has_refined_room.ensures.0 refl) in
    (few, ((c.in-Ok.ensures.asked, room), c.in-Ok.ensures.small, c.in-Ok.ensures.fits))

pub write_near-requires-clause-stops : goal.write_near-requires-clause-stops
write_near-requires-clause-stops g c =
    let run = c.args.run.now in
    let kept = near_kept run c.args.pes c.in-Some.tolerance c.in-Ok.refined.decision c.in-Ok.refined.nearness c.in-InOrder.proof c.in-InOrder.is c.in-Ok.ensures.decided.refined in
    let room = c.if-not-has_refined_room.ensures.0 refl in
    omega (
      arith,
      few_stops run.loads c.args.pes c.in-InOrder.proof.least.bottleneck c.in-InOrder.proof.least.floor
          kept.right.least.floor_holds,
      room.decision_room.stops,
    )

pub write_near-requires-clause-step_starts : goal.write_near-requires-clause-step_starts
write_near-requires-clause-step_starts g c =
    let run = c.args.run.now in
    let kept = near_kept run c.args.pes c.in-Some.tolerance c.in-Ok.refined.decision c.in-Ok.refined.nearness c.in-InOrder.proof c.in-InOrder.is c.in-Ok.ensures.decided.refined in
    let room = c.if-not-has_refined_room.ensures.0 refl in
    omega (arith, room.standing_room.step_starts, first_steps-length 0 c.in-InOrder.proof.heights, kept.right.proved.counted, kept.order.naming.counted)

pub returns-in-Planned-clause-refined : goal.returns-in-Planned-clause-refined
returns-in-Planned-clause-refined g c =
    let w = c.write_planned.ensures in (
      [],
      decided_anew c.args.run.now c.args.pes c.args.thousandths c.args.keep_order _ _ _ c.if-keep_order.false
          (told_as_plan c.args.run.now c.args.pes c.in-Some.tolerance c.args.thousandths c.in-Ok.refined.decision c.in-Ok.refined.nearness _ _ _
          c.in-Planned.is c.in-Some.ensures.some w.planned w.told c.in-Ok.ensures.decided.refined),
      left_in _ _ _ _ w.planned w.no_steps w.left,
    )

pub returns-in-Planned-clause-no_more : goal.returns-in-Planned-clause-no_more
returns-in-Planned-clause-no_more g c anew =
    no_more_told c.args.run.now c.args.pes c.in-Some.tolerance c.in-Ok.refined.decision c.in-Ok.refined.nearness _
    (ap (λ (t : Told). t.moved) c.write_planned.ensures.told) c.in-Ok.ensures.decided.refined

pub returns-in-Planned-clause-kept_whole : goal.returns-in-Planned-clause-kept_whole
returns-in-Planned-clause-kept_whole g c =
    let told = c.write_planned.ensures.told in
    kept_whole_told c.args.run.now.loads (sizes_of c.args.run.now) c.args.pes c.in-Some.tolerance c.args.thousandths c.in-Ok.refined.decision c.in-Ok.refined.nearness Planned _ _
    c.in-Planned.is c.in-Some.ensures.some (ap (λ (t : Told). t.least) told) (ap (λ (t : Told). t.moved) told) c.in-Ok.ensures.decided.kept_whole

pub returns-in-Planned-clause-asked : goal.returns-in-Planned-clause-asked
returns-in-Planned-clause-asked g c = (
  c.in-Ok.ensures.asked,
  subst (λ (r : Listed). HasRefinedRoom (length r.loads) c.args.pes (lists_in c.args.room.now)
      (standing_lists_in c.args.standing.now)) c.run.view_is (c.if-not-has_refined_room.ensures.0 refl),
)

pub returns-in-Ok-flat_steps-clause-refined : goal.returns-in-Ok-flat_steps-clause-refined
returns-in-Ok-flat_steps-clause-refined g c =
    let w = c.write_near.ensures in
    let p = c.in-InOrder.proof in (
      p.heights,
      decided_anew c.args.run.now c.args.pes c.args.thousandths c.args.keep_order _ _ _ c.if-keep_order.false
          (told_as_near c.args.run.now c.args.pes c.in-Some.tolerance c.args.thousandths c.in-Ok.refined.decision c.in-Ok.refined.nearness p _ _ _ c.in-InOrder.is
          c.in-Some.ensures.some w.near w.told (same_standing c.in-Ok.refined.decision p _ _ w.order w.present) c.in-Ok.ensures.decided.refined),
      subst (λ b. IsStandingIn b p.heights c.write_near.result.steps (standing_lists_in c.args.standing.now)
          (standing_lists_in c.write_near.new.standing)) (sym w.near) w.steps,
    )

pub returns-in-Ok-flat_steps-clause-no_more : goal.returns-in-Ok-flat_steps-clause-no_more
returns-in-Ok-flat_steps-clause-no_more g c anew =
    no_more_told c.args.run.now c.args.pes c.in-Some.tolerance c.in-Ok.refined.decision c.in-Ok.refined.nearness _
    (ap (λ (t : Told). t.moved) c.write_near.ensures.told) c.in-Ok.ensures.decided.refined

pub returns-in-Ok-flat_steps-clause-kept_whole : goal.returns-in-Ok-flat_steps-clause-kept_whole
returns-in-Ok-flat_steps-clause-kept_whole g c =
    let told = c.write_near.ensures.told in
    kept_whole_told c.args.run.now.loads (sizes_of c.args.run.now) c.args.pes c.in-Some.tolerance c.args.thousandths c.in-Ok.refined.decision c.in-Ok.refined.nearness (InOrder c.in-InOrder.proof) _ _
    c.in-InOrder.is c.in-Some.ensures.some (ap (λ (t : Told). t.least) told) (ap (λ (t : Told). t.moved) told) c.in-Ok.ensures.decided.kept_whole

pub returns-in-Ok-flat_steps-clause-counted : goal.returns-in-Ok-flat_steps-clause-counted
returns-in-Ok-flat_steps-clause-counted g c =
    let run = c.args.run.now in
    let kept = near_kept run c.args.pes c.in-Some.tolerance c.in-Ok.refined.decision c.in-Ok.refined.nearness c.in-InOrder.proof c.in-InOrder.is c.in-Ok.ensures.decided.refined in
    omega (
      arith,
      few_stops run.loads c.args.pes c.in-InOrder.proof.least.bottleneck c.in-InOrder.proof.least.floor
          kept.right.least.floor_holds,
      c.write_near.ensures.counted,
    )

pub returns-in-Ok-flat_steps-clause-asked : goal.returns-in-Ok-flat_steps-clause-asked
returns-in-Ok-flat_steps-clause-asked g c = (
  c.in-Ok.ensures.asked,
  subst (λ (r : Listed). HasRefinedRoom (length r.loads) c.args.pes (lists_in c.args.room.now)
      (standing_lists_in c.args.standing.now)) c.run.view_is (c.if-not-has_refined_room.ensures.0 refl),
)

pub unreachable-requires : goal.unreachable-requires
unreachable-requires g c = subst (IsRefinedBy c.args.run.now.loads (sizes_of c.args.run.now) c.args.pes c.in-Some.tolerance c.in-Ok.refined.decision) c.in-InAnyOrder.is c.in-Ok.ensures.decided.refined
